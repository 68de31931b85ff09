-- The lent table is checked, and the rows before 14 are tried.
use Rattle.lfa.specs.Question.{network_asked}
use Rattle.rows.specs.Rows.{question_about}
use Rattle.question.specs.Turning.{table_cells}
use Rattle.question.proofs.QuestionLaws.{checked}
use Rattle.question.proofs.ask_with.Goals as goal

pub returns : goal.returns
unfolding question_about table_cells network_asked
returns c = λ b s choices ranks t good.
    let table = c.args.table.now in
    c.judge.ensures b table s choices ranks t good (checked t table c.holds_distances-right.ensures)
