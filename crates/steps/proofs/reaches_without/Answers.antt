use Rattle.std.proofs.Common.{sym}
use Rattle.steps.proofs.CrossingLaws.{far_away, in_set, kept}
use Rattle.steps.proofs.reaches_without.Goals as goal

pub returns-then-target-x-ge-UNREACHABLE : goal.returns-then-target-x-ge-UNREACHABLE
returns-then-target-x-ge-UNREACHABLE c = sym (far_away _ _ _ c.if-target-x-ge-UNREACHABLE.true)

pub returns-then-set-x-eq1 : goal.returns-then-set-x-eq1
returns-then-set-x-eq1 c = sym (in_set _ _ _ c.if-set-x-eq1.true)

pub returns : goal.returns
returns c = sym (kept _ _ _ c.if-target-x-ge-UNREACHABLE.false c.if-set-x-eq1.false)
