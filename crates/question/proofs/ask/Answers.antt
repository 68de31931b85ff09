-- The rows before 14 are tried, and where none applies, the area is filled. Where one does, it is as it was lent.
use Rattle.std.proofs.Common.{false, [], length, refl}
use Rattle.rows.specs.Rows.{question_about}
use Rattle.rows.specs.Laws.{has_cells}
use Rattle.question.specs.Turning.{work_cells, turned_answer, turned_row}
use Rattle.question.proofs.QuestionLaws.{refusal_gone, area_gone, filled_posed}
use Rattle.question.proofs.ask.Goals as goal

pub returns-in_err-judge-clause-turned : goal.returns-in_err-judge-clause-turned
unfolding work_cells
returns-in_err-judge-clause-turned c = λ b s choices ranks t good. refusal_gone _ c.in_err-judge.field-0.0 _ c.from_residual.ensures.1 (c.in_err-judge.ensures b [] s choices ranks t good refl)

pub returns-in_err-judge-clause-area : goal.returns-in_err-judge-clause-area
returns-in_err-judge-clause-area c = λ b s choices ranks t good. area_gone _ c.from_residual.ensures.0 _ _

pub returns-clause-turned : goal.returns-clause-turned
unfolding work_cells
returns-clause-turned c = λ b s choices ranks t good. c.in_ok-judge.ensures b [] s choices ranks t good refl

pub returns-clause-area : goal.returns-clause-area
unfolding work_cells question_about turned_answer turned_row
returns-clause-area c = λ b s choices ranks t good.
    let work = c.args.work.now in
    let q = question_about b (work_cells (length work)) [] c.args.asked s choices ranks in
    filled_posed q t work (has_cells c.args.asked.call false s) refl (c.in_ok-judge.ensures b [] s choices ranks t good refl) c.fill.ensures tt
