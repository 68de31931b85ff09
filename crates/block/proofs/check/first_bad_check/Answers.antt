-- The search for the first block that does not hold its check.
-- Assumes nothing.
use Rattle.std.proofs.Common.{sym, ◌∙◌, arith}
use Rattle.block.specs.Laws.First.{first_found, none_found}
use Rattle.block.proofs.check.first_bad_check.Goals as goal

pub returns-then-not-check_good : goal.returns-then-not-check_good
returns-then-not-check_good c = first_found _ _ _ _ c.loop-i.invariant (omega arith) (omega arith) (sym c.check_good.ensures ∙ c.if-not-check_good.true)

pub returns : goal.returns
returns c = none_found _ _ _ _ c.loop-i.invariant (omega arith)
