-- The rows before 14 decide in their order, then the search part answers over the filled area.
use Rattle.std.proofs.Common.{ℕ, ◌<◌, [], length, refl, sym, ap, ◌∙◌, arith}
use Rattle.std.specs.Prelude.{Ok, Err}
use Rattle.lfa.specs.File.{byte_at}
use Rattle.lfa.specs.Question.{ask_prefix}
use Rattle.lfa.specs.Answer as lfa
use Rattle.lfa.specs.Answer.{network_loaded}
use Rattle.rows.specs.Rows.{source_of, call_of, question_about}
use Rattle.network_file.specs.Struct.{struct_of, link_part}
use Rattle.question.specs.Turning.{work_cells, Poses}
use Rattle.question.proofs.QuestionLaws.{err_is}
use Rattle.answers.specs.Answer.{repair_of}
use Rattle.repair.specs.Told.{prefix_numbers}
use Rattle.repair.specs.Laws.Told.{poses_numbers, told_refused, told_ready}
use Rattle.repair.specs.Laws.Answered.{prefix_told, area_left}
use Rattle.repair.proofs.prefix_repair.Goals as goal

pub returns-in_err-network : goal.returns-in_err-network
unfolding repair_of ask_prefix question_about call_of source_of work_cells prefix_numbers byte_at
returns-in_err-network c =
    let a = c.args in
    let x = c.in_err-network.field-0.0 in
    let j : Poses (ask_prefix a.file.now (length a.work.now) a.ranks.now a.link a.end a.prefix) (Err x) a.work.now c.pose.new.work =
    poses_numbers a.file.now (work_cells (length a.work.now)) [] [] a.ranks.now c.prefix_asked-asked.ensures (sym c.arranged.ensures) c.in_err-network.ensures.posed in
    let bytes : (i : ℕ) → byte_at c.args.file.now i < 256 = λ i. omega (arith, c.type_inv.file i) in
    -- a refusal hands over no network: it is told whatever would be found over that of the file
    let told = told_refused _ refl ∙ prefix_told (struct_of (network_loaded a.file.now)) j refl bytes tt refl in
    rw (err_is x _ c.from_residual.ensures.1) (record { answer_is = told; area_is = area_left j bytes })

pub returns : goal.returns
unfolding ask_prefix question_about call_of source_of work_cells prefix_numbers byte_at
returns c =
    let a = c.args in
    let j : Poses (ask_prefix a.file.now (length a.work.now) a.ranks.now a.link a.end a.prefix) (Ok (link_part c.in_ok-network.network)) a.work.now c.pose.new.work =
    poses_numbers a.file.now (work_cells (length a.work.now)) [] [] a.ranks.now c.prefix_asked-asked.ensures (sym c.arranged.ensures) c.in_ok-network.ensures.posed in
    let bytes : (i : ℕ) → byte_at c.args.file.now i < 256 = λ i. omega (arith, c.type_inv.file i) in
    let told = told_ready _ refl (c.repair_answer.ensures ∙ ap lfa.repair_answer c.prefix_pair.ensures) in
    record { answer_is = told ∙ prefix_told c.in_ok-network.network j c.in_ok-network.ensures.network bytes refl refl; area_is = area_left j bytes }
