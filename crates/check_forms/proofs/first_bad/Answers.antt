-- The search for the first block whose check is wrong.
-- Assumes nothing.
use Rattle.std.proofs.Common.{◌≡◌, ℕ, eqb, ◌∙◌, arith, eq-eqb}
use borrow.Author.Tests.{ne_eqb}
use Rattle.lfa.specs.File.{Bytes, word_at, block_of, blocks_in, check_of, check_good}
use Rattle.metric.proofs.Laws.List.{every_more}
use Rattle.check_forms.specs.FirstBad.{bad_found, all_passed}
use Rattle.check_forms.proofs.first_bad.Goals as goal

-- the test of one block
tested : (b block : Bytes) (i check word : ℕ) → block ≡ block_of b i → check ≡ check_of block → word ≡ word_at block 510 → check_good b i ≡ eqb check word
unfolding check_good
tested b block i check word same e f = rw (e, f, same)

pub returns-then-check-word_at : goal.returns-then-check-word_at
unfolding blocks_in
returns-then-check-word_at g c =
    let block = c.block_at-block in
    let check = c.requires.right _ _ block.ensures.1 c.check.ensures in
    bad_found _ c.loop-i.i c.loop-i.invariant (omega arith) (tested _ _ _ _ _ block.ensures.0 check c.word_at.ensures ∙ ne_eqb _ _ c.if-check-word_at.true)

pub loop-i-preserved : goal.loop-i-preserved
loop-i-preserved g c =
    let block = c.block_at-block in
    let check = c.requires.right _ _ block.ensures.1 c.check.ensures in
    every_more (check_good _) c.loop-i.i c.loop-i.invariant (tested _ _ _ _ _ block.ensures.0 check c.word_at.ensures ∙ eq-eqb _ _ c.if-check-word_at.false)

pub returns : goal.returns
unfolding blocks_in
returns g c = all_passed _ c.loop-i.i c.loop-i.invariant (omega arith)
