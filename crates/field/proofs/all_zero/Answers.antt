-- The turns of the loop: a byte that is zero is passed, another is found.
-- Assumes nothing.
use Rattle.field.proofs.FieldLaws.{zero_passed, zero_fails, zero_ends}
use Rattle.field.proofs.all_zero.Goals as goal
use Rattle.field.proofs.all_zero.Goals.{then-byte-ne0, else-byte-ne0}

pub loop-byte-preserved : goal.loop-byte-preserved
loop-byte-preserved c =
    let l = c.loop-byte in
    elim c.if-byte-ne0.branch [ then-byte-ne0 w ↦ zero_fails _ l.byte-index c.loop-byte-test.true l.zero w.if-byte-ne0.true w.zero-is l.invariant | else-byte-ne0 w ↦ zero_passed _ l.byte-index c.loop-byte-test.true w.if-byte-ne0.false w.zero-is l.invariant ]

pub returns : goal.returns
returns c = zero_ends _ _ _ c.loop-byte-test.false c.loop-byte.invariant
