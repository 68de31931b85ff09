-- The test of row 3, in the order of `head_parts`.
-- Assumes nothing.
use Rattle.std.proofs.Common.{eq-eqb}
use borrow.Author.Tests.{ne_eqb}
use Rattle.lfa.specs.File.{byte_at, part_of}
use Rattle.block.proofs.HeadLaws.{head_parts}
use Rattle.block.proofs.head.head_good.Goals as goal

pub returns-then-not-label_good : goal.returns-then-not-label_good
returns-then-not-label_good c = rw (head_parts, ← c.label_good.ensures, c.if-not-label_good.true)

pub returns-then-file-ne0 : goal.returns-then-file-ne0
unfolding byte_at
returns-then-file-ne0 c = rw (head_parts, ← c.label_good.ensures, c.if-not-label_good.false, ne_eqb _ _ c.if-file-ne0.true)

pub returns-then-not-counts_good : goal.returns-then-not-counts_good
unfolding byte_at
returns-then-not-counts_good c =
    rw (head_parts, ← c.label_good.ensures, c.if-not-label_good.false, eq-eqb _ _ c.if-file-ne0.false, ← c.counts_good.ensures, c.if-not-counts_good.true)

pub returns : goal.returns
unfolding byte_at part_of
returns c =
    rw (head_parts, ← c.label_good.ensures, c.if-not-label_good.false, eq-eqb _ _ c.if-file-ne0.false, ← c.counts_good.ensures, c.if-not-counts_good.false) c.all_zero.ensures
