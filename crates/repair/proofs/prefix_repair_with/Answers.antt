-- The rows before 14 decide in their order, then the search part answers over the lent table, which is as if it were filled.
use Rattle.std.proofs.Common.{ℕ, ◌<◌, [], refl, sym, ap, ◌∙◌, arith}
use Rattle.std.specs.Prelude.{Ok, Err}
use Rattle.lfa.specs.Lists.{member_of, any_of}
use Rattle.lfa.specs.File.{byte_at}
use Rattle.lfa.specs.Question.{ask_prefix_with, cells_from, inputs_of, input_number, has_input}
use Rattle.lfa.specs.Answer as lfa
use Rattle.lfa.specs.Answer.{network_loaded}
use Rattle.rows.specs.Rows.{source_of, call_of, question_about}
use Rattle.network_file.specs.Struct.{struct_of, link_part}
use Rattle.question.specs.Turning.{table_cells, Judges}
use Rattle.question.specs.Laws.Posed.{poses_table}
use Rattle.question.proofs.QuestionLaws.{err_is}
use Rattle.answers.specs.Answer.{repair_of}
use Rattle.repair.specs.Told.{prefix_numbers}
use Rattle.repair.specs.Laws.Told.{judges_numbers, told_refused, told_ready}
use Rattle.repair.specs.Laws.Answered.{prefix_told}
use Rattle.repair.proofs.prefix_repair_with.Goals as goal

pub returns-in_err-network : goal.returns-in_err-network
unfolding repair_of ask_prefix_with question_about call_of source_of table_cells prefix_numbers has_input inputs_of cells_from input_number member_of any_of byte_at
returns-in_err-network c =
    let a = c.args in
    let x = c.in_err-network.field-0.0 in
    let bytes : (i : ℕ) → byte_at c.args.file.now i < 256 = λ i. omega (arith, c.type_inv.file i) in
    let j : Judges (ask_prefix_with a.file.now a.table.now a.ranks.now a.link a.end a.prefix) (Err x) =
    judges_numbers a.file.now (table_cells (network_loaded a.file.now) a.table.now) a.table.now [] a.ranks.now c.prefix_asked-asked.ensures (sym c.arranged.ensures) c.in_err-network.ensures.judged in
    -- a refusal hands over no network: it is told whatever would be found over that of the file
    rw (err_is x _ c.from_residual.ensures.1) (told_refused _ refl ∙ prefix_told (struct_of (network_loaded a.file.now)) (poses_table j refl bytes refl) refl bytes tt refl)

pub returns : goal.returns
unfolding ask_prefix_with question_about call_of source_of table_cells prefix_numbers has_input inputs_of cells_from input_number member_of any_of byte_at
returns c =
    let a = c.args in
    let bytes : (i : ℕ) → byte_at c.args.file.now i < 256 = λ i. omega (arith, c.type_inv.file i) in
    let j : Judges (ask_prefix_with a.file.now a.table.now a.ranks.now a.link a.end a.prefix) (Ok (link_part c.in_ok-network.network)) =
    judges_numbers a.file.now (table_cells (network_loaded a.file.now) a.table.now) a.table.now [] a.ranks.now c.prefix_asked-asked.ensures (sym c.arranged.ensures) c.in_ok-network.ensures.judged in
    let p = poses_table j refl bytes refl in
    told_ready _ refl (c.repair_answer.ensures ∙ ap lfa.repair_answer c.prefix_pair.ensures) ∙ prefix_told c.in_ok-network.network p c.in_ok-network.ensures.network bytes refl refl
