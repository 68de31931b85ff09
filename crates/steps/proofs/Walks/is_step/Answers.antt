-- `is_step` tests whether walks go on, whether the target is reached, and the sum, one after the other.
use Rattle.steps.proofs.NextLaws.{at_end, not_reached, by_sum}
use Rattle.steps.proofs.Walks.is_step.Goals as goal

pub returns-then-self-u-eq1 : goal.returns-then-self-u-eq1
returns-then-self-u-eq1 c = at_end _ _ _ _ _ c.if-self-u-eq1.true

pub returns-then-own-ge-UNREACHABLE : goal.returns-then-own-ge-UNREACHABLE
returns-then-own-ge-UNREACHABLE c = not_reached _ _ _ _ _ c.if-own-ge-UNREACHABLE.true

pub returns : goal.returns
returns c = by_sum _ _ _ _ _ c.if-self-u-eq1.false c.if-own-ge-UNREACHABLE.false c.add.ensures
