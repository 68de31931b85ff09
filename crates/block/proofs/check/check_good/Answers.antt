-- The test of row 2 for one block.
-- Assumes nothing.
use Rattle.std.proofs.Common.{eqb, ap, ap₂, ◌∙◌}
use Rattle.lfa.specs.File.{check_of, word_at, check_good}
use Rattle.block_check.specs.Whole.{whole}
use Rattle.block.proofs.check.check_good.Goals as goal

pub returns : goal.returns
unfolding check_good
returns c =
    let block = c.block_at-block.ensures in
    let check = c.check_of.ensures ∙ whole _ block.1 in
    ap₂ eqb (check ∙ ap check_of block.0) (c.word_at.ensures ∙ ap (λ b. word_at b 510) block.0)
