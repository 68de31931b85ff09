-- The first four bytes of a block, field by field.
-- Assumes nothing.
use Rattle.std.proofs.Common.{eq-eqb}
use borrow.Author.Tests.{ne_eqb}
use Rattle.lfa.specs.File.{byte_at}
use Rattle.block.specs.Head.{label_good}
use Rattle.block.proofs.later.label_good.Goals as goal

pub returns-then-from-number : goal.returns-then-from-number
unfolding label_good
returns-then-from-number c = rw (label_good, ← c.word_at.ensures, ← c.from.ensures, ne_eqb _ _ c.if-from-number.true)

pub returns-then-block-kind : goal.returns-then-block-kind
unfolding label_good byte_at
returns-then-block-kind c = rw (label_good, ← c.word_at.ensures, ← c.from.ensures, eq-eqb _ _ c.if-from-number.false, ne_eqb _ _ c.if-block-kind.true)

pub returns : goal.returns
unfolding label_good byte_at
returns c = rw (label_good, ← c.word_at.ensures, ← c.from.ensures, eq-eqb _ _ c.if-from-number.false, eq-eqb _ _ c.if-block-kind.false, ← c.from-2.ensures)
