-- What turns a question away, in document 01's rows and values, and what is told of a question that is put.
-- Assumes nothing.
use Rattle.std.specs.Prelude.{ℕ, ◌≡◌, List, length, Result, Ok, Err, IfOk}
use Rattle.std.proofs.Math.Option.{Option, none, some}
use Rattle.lfa.specs.Network as lfa
use Rattle.lfa.specs.Distance.{holds_distances, filled}
use Rattle.lfa.specs.Space.{under_maintenance}
use Rattle.lfa.specs.Question.{Question, network_asked}
use Rattle.lfa.specs.Refusal.{Row, early, short_area, wrong_table, short_buffer, bad_ranks, no_such_link, no_such_prefix, no_pair, Decided, decided, in_file}
use Rattle.lfa.specs.Answer.{Answer, refusal, early_answer, network_loaded}
use Rattle.network_file.specs.Load.{fault_row}
use Rattle.network_file.specs.Struct.{links_struct_of, link_part}
use Rattle.network_file.specs.declared.network.Network.{Network}
use Rattle.metric.specs.declared.columns.Links.{Links}
use Rattle.rows.specs.declared.Cells.{Cells}
use Rattle.rows.specs.declared.Cells.TheVariants.{Work, Table}
use Rattle.rows.specs.Rows.{right_in}
use Rattle.question.specs.declared.Refusal.{Refusal}
use Rattle.question.specs.declared.Refusal.TheVariants.{File, ShortArea, ShortBuffer, NoSuchLink, NoSuchPrefix, NoPair, BadRanks, WrongTable}

-- the row of each refusal, with the value that it returns
unfoldable pub row_of : Refusal → Decided Row
row_of (File f) = in_file (fault_row f)
row_of (ShortArea v) = decided (early short_area) v
row_of (ShortBuffer v) = decided (early short_buffer) v
row_of (NoSuchLink v) = decided (early no_such_link) v
row_of (NoSuchPrefix v) = decided (early no_such_prefix) v
row_of NoPair = decided no_pair 0
row_of BadRanks = decided (early bad_ranks) 0
row_of WrongTable = decided (early wrong_table) 0

unfoldable pub refusal_answer : Refusal → Answer
refusal_answer x = refusal (row_of x)

-- the row that turns a question away, if any does, and the answer by it, whatever is handed over where none does
unfoldable pub turned_row : {T : Type 0} → Result T Refusal → Option (Decided Row)
turned_row (Err r) = some (row_of r)
turned_row (Ok held) = none

unfoldable pub turned_answer : {T : Type 0} → Result T Refusal → Option Answer
turned_answer posed = elim (turned_row posed) [ some d ↦ some (refusal d) | none ↦ none ]

-- the work area once a question is posed: the distances, unless it is turned away
unfoldable pub area_posed : {T : Type 0} → Result T Refusal → lfa.Network → List ℕ → List ℕ
area_posed (Err r) net area = area
area_posed (Ok held) net area = filled net area

-- the links of a network that is handed over
abbrev pub links_posed : Result Network Refusal → Result Links Refusal
links_posed (Err r) = Err r
links_posed (Ok network) = Ok (link_part network)

-- the cells for distances of a question: a work area of so many; or this table, which holds the distances of a network or does not
unfoldable pub work_cells : ℕ → Cells
work_cells count = Work count

unfoldable pub table_cells : lfa.Network → List ℕ → Cells
table_cells net table = Table (length table) (holds_distances net table)

-- a table that is lent was judged rightly
abbrev pub TableJudged : Question → Cells → Type 0
TableJudged q cells = right_in cells (holds_distances (network_asked q) q.table) ≡ holds_distances (network_asked q) q.table

-- What the calls that put a question tell of it; links are under maintenance at 65,535.
pub record Judges (q : Question) (posed : Result Links Refusal) : Type 0 where
  pub limit_is : q.maintenance ≡ under_maintenance
  pub turned_is : turned_answer posed ≡ early_answer q
  pub links_is : IfOk posed (λ links. links ≡ links_struct_of (network_loaded q.file))

-- and what is in the cells for distances, which the question counts, before and after
pub record Poses (q : Question) (posed : Result Links Refusal) (area after : List ℕ) : Type 0 where
  pub judges : Judges q posed
  pub cells_are : q.cells ≡ length area
  pub area_is : after ≡ area_posed posed (network_loaded q.file) area
