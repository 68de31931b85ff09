-- The field at an offset, whether both of its bytes are there, one or none.
-- Assumes nothing.
use Rattle.std.proofs.Common.{◌∙◌}
use Rattle.lfa.specs.File.{word_at, byte_at}
use Rattle.field.proofs.FieldLaws.{word_past, word_last}
use Rattle.field.proofs.word_at.Goals as goal

pub returns-then-n-at : goal.returns-then-n-at
returns-then-n-at c = word_past _ _ c.if-n-at.true

pub returns-then-n-next : goal.returns-then-n-next
returns-then-n-next c = c.word_of.ensures ∙ word_last _ _ c.if-n-next.true

pub returns : goal.returns
unfolding word_at byte_at
returns c = c.word_of-2.ensures
