-- The rows decide in their order, then the search part answers.
use Rattle.std.proofs.Common.{ℕ, ◌<◌, [], length, refl, ap, ◌∙◌, arith}
use Rattle.std.specs.Prelude.{Ok, Err}
use Rattle.lfa.specs.Ranks.{is_arrangement}
use Rattle.lfa.specs.File.{byte_at}
use Rattle.lfa.specs.Question.{ask_space}
use Rattle.lfa.specs.Answer.{set}
use Rattle.search.specs.Spaces.{space_named}
use Rattle.rows.specs.Rows.{call_of, question_about}
use Rattle.question.specs.Turning.{work_cells, Poses}
use Rattle.question.specs.Laws.Posed.{refused_answered}
use Rattle.question.proofs.QuestionLaws.{err_is}
use Rattle.answers.specs.Answer.{space_answer}
use Rattle.repair.specs.Laws.Answered.{space_answered, area_left}
use Rattle.repair.proofs.ask_space.Goals as goal

pub returns-in_err-links : goal.returns-in_err-links
unfolding space_answer ask_space question_about call_of work_cells is_arrangement byte_at
returns-in_err-links c =
    let a = c.args in
    let x = c.in_err-links.field-0.0 in
    let j : Poses (ask_space (space_named a.which) a.file.now (length a.work.now) a.link a.end) (Err x) a.work.now c.pose_links.new.work = c.in_err-links.ensures _ [] [] refl in
    rw (err_is x _ c.from_residual.ensures.1) (refused_answered j refl)

pub returns : goal.returns
unfolding space_answer ask_space question_about call_of work_cells is_arrangement byte_at
returns c =
    let a = c.args in
    let j : Poses (ask_space (space_named a.which) a.file.now (length a.work.now) a.link a.end) (Ok c.in_ok-links.links) a.work.now c.pose_links.new.work = c.in_ok-links.ensures _ [] [] refl in
    let bytes : (i : ℕ) → byte_at c.args.file.now i < 256 = λ i. omega (arith, c.type_inv.file i) in
    record { answer_is = ap set c.space_in.ensures ∙ space_answered j bytes refl _ refl; area_is = area_left j bytes }
