-- The test of row 5 for one block: its label, then its zero tail.
-- Assumes nothing.
use Rattle.std.proofs.Common.{sym, ◌∙◌}
use Rattle.lfa.specs.File.{part_of}
use Rattle.block.proofs.BlockLaws.{later_other, later_labelled}
use Rattle.block.proofs.later.later_good.Goals as goal

pub returns-then-not-label_good : goal.returns-then-not-label_good
returns-then-not-label_good c = later_other _ _ _ _ _ (sym c.label_good.ensures ∙ c.if-not-label_good.true)

pub returns : goal.returns
unfolding part_of
returns c = c.all_zero.ensures ∙ later_labelled _ _ _ _ _ (sym c.label_good.ensures ∙ c.if-not-label_good.false)
