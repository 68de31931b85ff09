-- The counts are tested, the file is put together, and handed on.
-- Assumes nothing.
use Rattle.std.proofs.Common.{ℕ, refl, sym, ◌∙◌, arith}
use Rattle.std.proofs.lemmas.List.{length-replicate}
use Rattle.lfa.specs.FileOf.{pad}
use Rattle.writer.proofs.ComposeLaws.{first_part, holds_few}
use Rattle.writer.proofs.WriteLaws.{counts_small, counts_fail}
use Rattle.writer.proofs.write.Goals as goal

pub returns-then-not-counts_fit : goal.returns-then-not-counts_fit
returns-then-not-counts_fit c = counts_fail _ _ (sym c.counts_fit.ensures ∙ c.if-not-counts_fit.true)

pub compose-size-requires : goal.compose-size-requires
unfolding pad
compose-size-requires c = (counts_small _ (sym c.counts_fit.ensures ∙ c.if-not-counts_fit.false), (refl, length-replicate {A = ℕ} 6656 0))

pub returns : goal.returns
returns c =
    let made = c.compose-size.ensures in
    c.write_accepted.ensures _ (sym c.counts_fit.ensures ∙ c.if-not-counts_fit.false) (first_part _ _ _ made.1 made.0)

pub slice_bounds-write_accepted-end : goal.slice_bounds-write_accepted-end
slice_bounds-write_accepted-end c = let made = c.compose-size.ensures in omega (arith, made.0, holds_few _ _ made.1, made.1.1)
