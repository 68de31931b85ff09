-- The counts of the network decide the rows before 14.
use Rattle.std.proofs.Common.{refl}
use Rattle.std.specs.Prelude.{Ok, Err}
use Rattle.lfa.specs.Distance.{holds_distances}
use Rattle.lfa.specs.Question.{network_asked}
use Rattle.lfa.specs.Refusal.{in_early}
use Rattle.rows.specs.Rows.{question_about, row_decided}
use Rattle.question.specs.Turning.{turned_row}
use Rattle.question.proofs.QuestionLaws.{row_gone, row_early}
use Rattle.question.proofs.judge.Goals as goal

pub returns-in_err-first_row : goal.returns-in_err-first_row
unfolding question_about
returns-in_err-first_row c = λ b table s choices ranks t good judged.
    let a = c.args in
    let q = question_about b a.cells table a.asked s choices ranks in
    row_early q t c.narrow-routers.ensures a.cells judged (Err c.in_err-first_row.field-0.0) (c.in_err-first_row.ensures b s table choices ranks (holds_distances (network_asked q) table) good) _ (row_gone _ _ c.from_residual.ensures.1)

pub returns : goal.returns
unfolding question_about row_decided in_early turned_row
returns c = λ b table s choices ranks t good judged.
    let a = c.args in
    let q = question_about b a.cells table a.asked s choices ranks in
    row_early q t c.narrow-routers.ensures a.cells judged (Ok c.in_ok-first_row.field-0) (c.in_ok-first_row.ensures b s table choices ranks (holds_distances (network_asked q) table) good) (Ok tt) refl
