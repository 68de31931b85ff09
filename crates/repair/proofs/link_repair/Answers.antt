-- The rows before 14 decide in their order, then the search part answers over the filled area.
use Rattle.std.proofs.Common.{ℕ, ◌<◌, [], length, refl, sym, ap, ◌∙◌, arith}
use Rattle.std.specs.Prelude.{Ok, Err}
use Rattle.lfa.specs.File.{byte_at}
use Rattle.lfa.specs.Question.{ask_link}
use Rattle.lfa.specs.Answer as lfa
use Rattle.lfa.specs.Answer.{network_loaded}
use Rattle.network_file.specs.Struct.{links_struct_of}
use Rattle.rows.specs.Rows.{source_of, call_of, question_about}
use Rattle.question.specs.Turning.{work_cells, Poses}
use Rattle.question.proofs.QuestionLaws.{err_is}
use Rattle.answers.specs.Answer.{repair_of}
use Rattle.repair.specs.Told.{link_numbers}
use Rattle.repair.specs.Laws.Told.{poses_numbers, told_refused, told_ready}
use Rattle.repair.specs.Laws.Answered.{link_told, area_left}
use Rattle.repair.proofs.link_repair.Goals as goal

pub returns-in_err-links : goal.returns-in_err-links
unfolding repair_of ask_link question_about call_of source_of work_cells link_numbers byte_at
returns-in_err-links c =
    let a = c.args in
    let x = c.in_err-links.field-0.0 in
    let j : Poses (ask_link a.file.now (length a.work.now) a.ranks.now a.link a.end) (Err x) a.work.now c.pose_links.new.work =
    poses_numbers a.file.now (work_cells (length a.work.now)) [] [] a.ranks.now c.link_asked-asked.ensures (sym c.arranged.ensures) c.in_err-links.ensures in
    let bytes : (i : ℕ) → byte_at c.args.file.now i < 256 = λ i. omega (arith, c.type_inv.file i) in
    -- a refusal hands over no links: it is told whatever would be found over any
    let told = told_refused _ refl ∙ link_told j bytes (links_struct_of (network_loaded a.file.now)) tt refl in
    rw (err_is x _ c.from_residual.ensures.1) (record { answer_is = told; area_is = area_left j bytes })

pub returns : goal.returns
unfolding ask_link question_about call_of source_of work_cells link_numbers byte_at
returns c =
    let a = c.args in
    let j : Poses (ask_link a.file.now (length a.work.now) a.ranks.now a.link a.end) (Ok c.in_ok-links.links) a.work.now c.pose_links.new.work =
    poses_numbers a.file.now (work_cells (length a.work.now)) [] [] a.ranks.now c.link_asked-asked.ensures (sym c.arranged.ensures) c.in_ok-links.ensures in
    let bytes : (i : ℕ) → byte_at c.args.file.now i < 256 = λ i. omega (arith, c.type_inv.file i) in
    let told = told_ready _ refl (c.link_answer.ensures ∙ ap lfa.repair_answer c.link_pair.ensures) in
    record { answer_is = told ∙ link_told j bytes _ refl refl; area_is = area_left j bytes }
