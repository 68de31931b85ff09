-- The check of any bytes: of a block, or 0.
-- Assumes nothing.
use Rattle.std.proofs.Common.{sym, ◌∙◌}
use Rattle.block_check.specs.Whole.{whole, not_whole}
use Rattle.block_check.proofs.check_of.Goals as goal

pub returns-then-block-ne512 : goal.returns-then-block-ne512
returns-then-block-ne512 c = sym (not_whole _ c.if-block-ne512.true)

pub returns : goal.returns
returns c = c.whole_check.ensures ∙ sym (whole _ c.if-block-ne512.false)
