-- The question that the numbers of a call make, the inputs that its call has, and the row that decides.
-- Assumes nothing.
use Rattle.std.specs.Prelude.{ℕ, Bool, true, false, List, Result, Ok, Err, ⊤}
use Rattle.std.proofs.Math.Option.{Option, none, some}
use Rattle.lfa.specs.File.{Bytes}
use Rattle.lfa.specs.Space as space
use Rattle.lfa.specs.Question as question
use Rattle.lfa.specs.Refusal as table
use Rattle.rows.specs.declared.Call.{Call}
use Rattle.rows.specs.declared.Call.TheVariants.{Distances, Space, Link, Prefix, Route}
use Rattle.rows.specs.declared.Asked.{Asked}
use Rattle.rows.specs.declared.Cells.{Cells}
use Rattle.rows.specs.declared.Cells.TheVariants.{Work, Table}
use Rattle.rows.specs.declared.Inputs.{Inputs}
use Rattle.rows.specs.declared.Row.{Row}
use Rattle.rows.specs.declared.Row.TheVariants.{ShortArea, WrongTable, ShortBuffer, NoSuchLink, NoSuchPrefix, BadRanks}

-- how many cells there are, whether they are given as a table, and whether that is right: where none is lent, any judgement will do
abbrev pub count_in : Cells → ℕ
count_in (Work n) = n
count_in (Table n r) = n

abbrev pub given_in : Cells → Bool
given_in (Work n) = false
given_in (Table n r) = true

abbrev pub right_in : Cells → Bool → Bool
right_in (Work n) any = any
right_in (Table n r) any = r

-- where the distances come from
unfoldable pub source_of : (given : Bool) → question.Source
source_of true = question.lent_table
source_of false = question.own_fill

-- the call, and the space that it asks for where it asks for one
unfoldable pub call_of : Call → (given : Bool) → space.Space → question.Call
call_of Distances given s = question.fill
call_of Space given s = question.space s
call_of Link given s = question.link_repair (source_of given)
call_of Prefix given s = question.prefix_repair (source_of given)
call_of Route given s = question.route (source_of given)

-- the question about a file, with these cells for distances, a table of them where it is given, and this table of ranks; the rows look at
-- neither the space nor the choice bytes
unfoldable pub question_about : Bytes → Cells → (table : List ℕ) → Asked → space.Space → (choices ranks : List ℕ) → question.Question
question_about b cells table a s choices ranks = record {
  call = call_of a.call (given_in cells) s;
  file = b;
  cells = count_in cells;
  table = table;
  buffer = a.buffer;
  ranks = ranks;
  link = a.link;
  end = a.end;
  prefix = a.prefix;
  choices = choices;
  maintenance = space.under_maintenance;
}

-- the inputs that a call has, beside the file and the cells for distances
unfoldable pub inputs_in : question.Call → Inputs
inputs_in c = record {
  table = question.has_input c question.a_table;
  buffer = question.has_input c (question.lent question.route_buffer);
  ranks = question.has_input c question.a_rank_table;
  link = question.has_input c question.a_link;
  prefix = question.has_input c question.a_prefix;
}

-- a row, where it is tried and its test does not pass
abbrev pub row_unless : (tried passes : Bool) → Row → Result ⊤ Row
row_unless true false row = Err row
row_unless true true row = Ok tt
row_unless false passes row = Ok tt

-- the row that decides, with the value that it returns, if any does
unfoldable pub row_decided : Result ⊤ Row → Option (table.Decided table.EarlyRow)
row_decided (Err (ShortArea v)) = some (table.decided table.short_area v)
row_decided (Err WrongTable) = some (table.decided table.wrong_table 0)
row_decided (Err (ShortBuffer v)) = some (table.decided table.short_buffer v)
row_decided (Err (NoSuchLink v)) = some (table.decided table.no_such_link v)
row_decided (Err (NoSuchPrefix v)) = some (table.decided table.no_such_prefix v)
row_decided (Err BadRanks) = some (table.decided table.bad_ranks 0)
row_decided (Ok done) = none
