-- The rows decide in their order, and the area holds the distances where none applies.
use Rattle.std.proofs.Common.{ℕ, ◌<◌, [], length, refl, arith}
use Rattle.std.specs.Prelude.{Ok, Err}
use Rattle.lfa.specs.Space.{p_space}
use Rattle.lfa.specs.Ranks.{is_arrangement}
use Rattle.lfa.specs.File.{byte_at}
use Rattle.lfa.specs.Question.{filling}
use Rattle.rows.specs.Rows.{call_of, question_about}
use Rattle.question.specs.Turning.{work_cells, Poses}
use Rattle.question.specs.Laws.Posed.{refused_answered}
use Rattle.question.proofs.QuestionLaws.{err_is}
use Rattle.answers.specs.Answer.{filled_answer}
use Rattle.repair.specs.Laws.Answered.{done_answered, area_left}
use Rattle.repair.proofs.distances.Goals as goal

pub returns-in_err-_links : goal.returns-in_err-_links
unfolding filled_answer filling question_about call_of work_cells is_arrangement byte_at
returns-in_err-_links c =
    let x = c.in_err-_links.field-0.0 in
    let work = c.args.work.now in
    let j : Poses (filling c.args.file.now (length work)) (Err x) work c.pose_links.new.work = c.in_err-_links.ensures p_space [] [] refl in
    rw (err_is x _ c.from_residual.ensures.1) (refused_answered j refl)

pub returns : goal.returns
unfolding filled_answer filling question_about call_of work_cells is_arrangement byte_at
returns c =
    let work = c.args.work.now in
    let j : Poses (filling c.args.file.now (length work)) (Ok c.in_ok-_links._links) work c.pose_links.new.work = c.in_ok-_links.ensures p_space [] [] refl in
    let bytes : (i : ℕ) → byte_at c.args.file.now i < 256 = λ i. omega (arith, c.type_inv.file i) in
    record { answer_is = done_answered j bytes refl refl; area_is = area_left j bytes }
