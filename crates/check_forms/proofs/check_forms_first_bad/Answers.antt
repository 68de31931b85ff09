-- Either form tells the same.
-- Assumes nothing.
use Rattle.std.proofs.Common.{◌∙◌}
use Rattle.lfa.specs.File.{blocks_in}
use Rattle.block_check.specs.Whole.{whole}
use Rattle.check_forms.proofs.check_forms_first_bad.Goals as goal
use Rattle.check_forms.proofs.check_forms_first_bad.Goals.{then-words, else-words}

pub first_bad-bad-requires-else-words-clause-right : goal.first_bad-bad-requires-else-words-clause-right
first_bad-bad-requires-else-words-clause-right c = λ block r h e. e ∙ whole _ h

pub returns : goal.returns
unfolding blocks_in
returns c = elim c.if-words.branch [ then-words w ↦ rw w.bad-is at c.unwrap_or.ensures ∙ w.first_bad-bad.ensures | else-words w ↦ rw w.bad-is at c.unwrap_or.ensures ∙ w.first_bad-bad-else-words.ensures ]
