-- The rows before 14 decide in their order, then the route is played over the lent table, which is as if it were filled.
use Rattle.std.proofs.Common.{ℕ, ◌<◌, length, refl, sym, arith}
use Rattle.std.specs.Prelude.{Ok, Err}
use Rattle.lfa.specs.Lists.{member_of, any_of}
use Rattle.lfa.specs.File.{byte_at}
use Rattle.lfa.specs.Question.{lent_table, ask_route_with, cells_from, inputs_of, input_number, has_input}
use Rattle.lfa.specs.Answer.{network_loaded}
use Rattle.network_file.specs.Struct.{link_part}
use Rattle.rows.specs.Rows.{source_of, call_of, question_about}
use Rattle.question.specs.Turning.{table_cells, Judges}
use Rattle.question.specs.Laws.Posed.{poses_table, refused_away}
use Rattle.question.proofs.QuestionLaws.{err_is}
use Rattle.repair.specs.Laws.Told.{judges_numbers}
use Rattle.route.specs.Answer.{played_of}
use Rattle.route.specs.Put.{route_numbers, Rest, route_question}
use Rattle.route.proofs.route_with.Goals as goal

pub returns-in_err-network : goal.returns-in_err-network
unfolding played_of ask_route_with route_question question_about call_of source_of table_cells route_numbers has_input inputs_of cells_from input_number member_of any_of byte_at
returns-in_err-network c =
    let a = c.args in
    let x = c.in_err-network.field-0.0 in
    let bytes : (i : ℕ) → byte_at a.file.now i < 256 = λ i. omega (arith, c.type_inv.file i) in
    let j : Judges (ask_route_with a.file.now a.table.now (length a.buffer.now) a.ranks.now a.link a.end a.prefix a.choices.now) (Err x) =
    judges_numbers a.file.now (table_cells (network_loaded a.file.now) a.table.now) a.table.now a.choices.now a.ranks.now c.route_asked-asked.ensures (sym c.arranged.ensures) c.in_err-network.ensures.judged in
    let away = refused_away (poses_table j refl bytes refl) refl in
    rw (err_is x _ c.from_residual.ensures.1) (record { answer_is = sym away.answered; buffer_is = sym (away.buffer_left _) })

pub route_over-requires : goal.route_over-requires
unfolding route_question question_about call_of source_of table_cells route_numbers has_input inputs_of cells_from input_number member_of any_of byte_at
route_over-requires c =
    let a = c.args in
    let rest : Rest = record { from = lent_table; file = a.file.now; cells = length a.table.now; table = a.table.now; before = a.table.now } in
    let bytes : (i : ℕ) → byte_at a.file.now i < 256 = λ i. omega (arith, c.type_inv.file i) in
    let j : Judges (route_question rest (length a.buffer.now) a.ranks.now a.link a.end a.prefix a.choices.now) (Ok (link_part c.in_ok-network.network)) =
    judges_numbers a.file.now (table_cells (network_loaded a.file.now) a.table.now) a.table.now a.choices.now a.ranks.now c.route_asked-asked.ensures (sym c.arranged.ensures) c.in_ok-network.ensures.judged in
    (rest, record { bytes = bytes; poses = poses_table j refl bytes refl; whole = c.in_ok-network.ensures.network })

pub returns : goal.returns
unfolding ask_route_with route_question question_about call_of source_of table_cells route_numbers has_input inputs_of cells_from input_number member_of any_of byte_at
returns c =
    let a = c.args in
    let rest : Rest = record { from = lent_table; file = a.file.now; cells = length a.table.now; table = a.table.now; before = a.table.now } in
    let bytes : (i : ℕ) → byte_at a.file.now i < 256 = λ i. omega (arith, c.type_inv.file i) in
    let j : Judges (route_question rest (length a.buffer.now) a.ranks.now a.link a.end a.prefix a.choices.now) (Ok (link_part c.in_ok-network.network)) =
    judges_numbers a.file.now (table_cells (network_loaded a.file.now) a.table.now) a.table.now a.choices.now a.ranks.now c.route_asked-asked.ensures (sym c.arranged.ensures) c.in_ok-network.ensures.judged in
    c.route_over.ensures rest (record { bytes = bytes; poses = poses_table j refl bytes refl; whole = c.in_ok-network.ensures.network })
