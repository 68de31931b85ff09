-- The rows before 14 decide in their order, then the search part answers over the lent table, which is as if it were filled.
use Rattle.std.proofs.Common.{ℕ, ◌<◌, [], refl, sym, ap, ◌∙◌, arith}
use Rattle.std.specs.Prelude.{Ok, Err}
use Rattle.lfa.specs.Lists.{member_of, any_of}
use Rattle.lfa.specs.File.{byte_at}
use Rattle.lfa.specs.Question.{ask_link_with, cells_from, inputs_of, input_number, has_input}
use Rattle.lfa.specs.Answer as lfa
use Rattle.lfa.specs.Answer.{network_loaded}
use Rattle.network_file.specs.Struct.{links_struct_of}
use Rattle.rows.specs.Rows.{source_of, call_of, question_about}
use Rattle.question.specs.Turning.{table_cells, Judges}
use Rattle.question.specs.Laws.Posed.{poses_table}
use Rattle.question.proofs.QuestionLaws.{err_is}
use Rattle.answers.specs.Answer.{repair_of}
use Rattle.repair.specs.Told.{link_numbers}
use Rattle.repair.specs.Laws.Told.{judges_numbers, told_refused, told_ready}
use Rattle.repair.specs.Laws.Answered.{link_told}
use Rattle.repair.proofs.link_repair_with.Goals as goal

pub returns-in_err-links : goal.returns-in_err-links
unfolding repair_of ask_link_with question_about call_of source_of table_cells link_numbers has_input inputs_of cells_from input_number member_of any_of byte_at
returns-in_err-links c =
    let a = c.args in
    let x = c.in_err-links.field-0.0 in
    let bytes : (i : ℕ) → byte_at c.args.file.now i < 256 = λ i. omega (arith, c.type_inv.file i) in
    let j : Judges (ask_link_with a.file.now a.table.now a.ranks.now a.link a.end) (Err x) =
    judges_numbers a.file.now (table_cells (network_loaded a.file.now) a.table.now) a.table.now [] a.ranks.now c.link_asked-asked.ensures (sym c.arranged.ensures) c.in_err-links.ensures in
    -- a refusal hands over no links: it is told whatever would be found over any
    rw (err_is x _ c.from_residual.ensures.1) (told_refused _ refl ∙ link_told (poses_table j refl bytes refl) bytes (links_struct_of (network_loaded a.file.now)) tt refl)

pub returns : goal.returns
unfolding ask_link_with question_about call_of source_of table_cells link_numbers has_input inputs_of cells_from input_number member_of any_of byte_at
returns c =
    let a = c.args in
    let bytes : (i : ℕ) → byte_at c.args.file.now i < 256 = λ i. omega (arith, c.type_inv.file i) in
    let j : Judges (ask_link_with a.file.now a.table.now a.ranks.now a.link a.end) (Ok c.in_ok-links.links) =
    judges_numbers a.file.now (table_cells (network_loaded a.file.now) a.table.now) a.table.now [] a.ranks.now c.link_asked-asked.ensures (sym c.arranged.ensures) c.in_ok-links.ensures in
    let p = poses_table j refl bytes refl in
    told_ready _ refl (c.link_answer.ensures ∙ ap lfa.repair_answer c.link_pair.ensures) ∙ link_told p bytes _ refl refl
