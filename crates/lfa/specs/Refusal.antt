-- "What turns a question away": the table's causes (`Causes`) as tests, the numbers of the rows and what they leave, the rows that each
-- call tries, and the row that decides.
-- Assumes nothing.
use Rattle.std.specs.Prelude.{ℕ, ◌-◌, ◌*◌, ◌≤◌, ◌<◌, ◌≡◌, Bool, ◌&&◌, ltb, leb, length}
use Rattle.std.proofs.Math.Option.{Option, none, some}
use mathlib.Core.List.{List, [], ◌∷◌, ◌++◌, map, Memᴰ}
use Rattle.lfa.specs.Lists.{unless, first_failing, select}
use Rattle.lfa.specs.File.{Bytes, byte_at, routers_of, links_of, prefixes_of, blocks_in, blocks_needed, length_good, check_good, head_good, block_count_good, block_good, link_good, link_new, prefix_good, routers_new}
use Rattle.lfa.specs.Distance.{HoldsDistances, holds_distances}
use Rattle.lfa.specs.Ranks.{Arrangement, is_arrangement}
use Rattle.lfa.specs.Question.{Question, Call, Buffer, work_area, route_buffer, Input, a_file, some_cells, a_table, a_rank_table, a_link, a_prefix, searching, lent, has_input, HasInput, searched, if_none, network_asked}
pub use Rattle.lfa.specs.Causes.{FileRow, bad_length, bad_check, bad_head, bad_block_count, bad_block, bad_link, parallel_link, bad_prefix, router_twice, FileApplies, EarlyRow, short_area, wrong_table, short_buffer, bad_ranks, no_such_link, no_such_prefix, EarlyApplies, Row, of_file, early, no_pair, Applies}

-- ---- Number and Left

-- what a row leaves in a lent buffer: what was lent, or what the call writes there
pub data Left : Type 0 where
  as_lent written : Left

unfoldable pub leaves_all : Buffer → Left
leaves_all b = as_lent

-- "route buffer; work area holds distances"
unfoldable pub leaves_route : Buffer → Left
leaves_route work_area = written
leaves_route route_buffer = as_lent

-- a line of the table: its number, the input that it looks at, and what it leaves in each buffer
pub record Entry : Type 0 where
  pub number : ℕ
  pub input : Input
  pub left : Buffer → Left

unfoldable pub file_number : FileRow → ℕ
file_number bad_length = 1
file_number bad_check = 2
file_number bad_head = 3
file_number bad_block_count = 4
file_number bad_block = 5
file_number bad_link = 6
file_number parallel_link = 7
file_number bad_prefix = 8
file_number router_twice = 9

abbrev pub early_number : EarlyRow → ℕ
early_number short_area = 10
early_number wrong_table = 18
early_number short_buffer = 11
early_number bad_ranks = 15
early_number no_such_link = 12
early_number no_such_prefix = 13

abbrev pub early_input : EarlyRow → Input
early_input short_area = some_cells
early_input wrong_table = a_table
early_input short_buffer = lent route_buffer
early_input bad_ranks = a_rank_table
early_input no_such_link = a_link
early_input no_such_prefix = a_prefix

unfoldable pub entry_of : Row → Entry
entry_of (of_file r) = record { number = file_number r; input = a_file; left = leaves_all }
entry_of (early r) = record { number = early_number r; input = early_input r; left = leaves_all }
entry_of no_pair = record { number = 14; input = searching; left = leaves_route }

-- ---- the order in which the rows are tried

unfoldable pub file_rows : List FileRow
file_rows = bad_length ∷ bad_check ∷ bad_head ∷ bad_block_count ∷ bad_block ∷ bad_link ∷ parallel_link ∷ bad_prefix ∷ router_twice ∷ []

-- Point 2: number 15 is "tried after 11"; Point 7: number 18 is "tried after 10 in the second call"
unfoldable pub early_rows : List EarlyRow
early_rows = short_area ∷ wrong_table ∷ short_buffer ∷ bad_ranks ∷ no_such_link ∷ no_such_prefix ∷ []

-- the rows of a question, and all rows
unfoldable pub question_rows : List Row
question_rows = map early early_rows ++ no_pair ∷ []

unfoldable pub all_rows : List Row
all_rows = map of_file file_rows ++ question_rows

-- whether a call has the input that a row looks at
unfoldable pub tries : Call → Row → Bool
tries c r = has_input c (entry_of r).input

abbrev pub tries_early : Call → EarlyRow → Bool
tries_early c r = tries c (early r)

-- "A call tries only the rows it has inputs for."
unfoldable pub rows_tried : Call → List Row
rows_tried c = select (tries c) all_rows

-- row r decides with value v: "the first that applies decides"
pub record Decides (q : Question) (r : Row) (v : ℕ) : Type 0 where
  pub before : List Row
  pub after : List Row
  pub tried : rows_tried q.call ≡ before ++ r ∷ after
  pub passed : (s : Row) (w : ℕ) → Memᴰ s before → Applies q s w → ⊥
  pub applies : Applies q r v

-- ---- the computation

-- the value that a row of the file returns where it applies
unfoldable pub file_returned : Bytes → FileRow → Option ℕ
file_returned b bad_length = unless (length_good b) 0
file_returned b bad_check = first_failing (check_good b) 0 (blocks_in b)
file_returned b bad_head = unless (head_good b) 0
file_returned b bad_block_count = unless (block_count_good b) (blocks_needed (links_of b) (prefixes_of b))
file_returned b bad_block = first_failing (block_good b) 1 (blocks_in b - 1)
file_returned b bad_link = first_failing (link_good b) 0 (links_of b)
file_returned b parallel_link = first_failing (link_new b) 0 (links_of b)
file_returned b bad_prefix = first_failing (prefix_good b) 0 (prefixes_of b)
file_returned b router_twice = first_failing (routers_new b) 0 (prefixes_of b)

-- the value that an early row returns where it applies, by the counts of any file, and by whether the lent table is right
unfoldable pub sized_returned : (routers links prefixes : ℕ) → (right : Bool) → Question → EarlyRow → Option ℕ
sized_returned n l p right q short_area = unless (leb (n * n) q.cells) (n * n)
sized_returned n l p right q wrong_table = unless right 0
sized_returned n l p right q short_buffer = unless (leb (2 * n) q.buffer) (2 * n)
sized_returned n l p right q bad_ranks = unless (is_arrangement q.ranks) 0
sized_returned n l p right q no_such_link = unless (ltb q.link l && leb q.end 1) l
sized_returned n l p right q no_such_prefix = unless (ltb q.prefix p) p

-- the value that a row returns where it applies to the question
unfoldable pub returned : Question → Row → Option ℕ
returned q (of_file r) = file_returned q.file r
returned q (early r) = sized_returned (routers_of q.file) (links_of q.file) (prefixes_of q.file) (holds_distances (network_asked q) q.table) q r
returned q no_pair = if_none (searched q q.call) 0

-- the row that decides, and the value that it returns
pub data Decided (R : Type 0) : Type 0 where
  decided : (row : R) (value : ℕ) → Decided R

unfoldable pub first_row : {R : Type 0} → (R → Option ℕ) → List R → Option (Decided R)
first_row value [] = none
first_row value (r ∷ rows) = elim (value r) [ some v ↦ some (decided r v) | none ↦ first_row value rows ]

-- what decides among the rows of a file or among the early rows, as a row of the table
unfoldable pub in_file : Decided FileRow → Decided Row
in_file (decided r v) = decided (of_file r) v

unfoldable pub in_early : Option (Decided EarlyRow) → Option (Decided Row)
in_early none = none
in_early (some (decided r v)) = some (decided (early r) v)

-- what turns a file away, and what turns a question away, if anything does
unfoldable pub file_refusal : Bytes → Option (Decided FileRow)
file_refusal b = first_row (file_returned b) file_rows

unfoldable pub refusal_of : Question → Option (Decided Row)
refusal_of q = first_row (returned q) (rows_tried q.call)

-- what decides of a file, or else of what comes after
unfoldable pub or_later : Option (Decided FileRow) → Option (Decided Row) → Option (Decided Row)
or_later (some d) later = some (in_file d)
or_later none later = later

-- what turns a question away before anything is searched for: a row of its file, or else an early row
unfoldable pub early_refusal : Question → Option (Decided Row)
early_refusal q = or_later (file_refusal q.file) (first_row (returned q) (select (tries q.call) (map early early_rows)))

-- ---- what no row turns away

-- "A file is accepted when none of rows 1 to 9 applies to it"; a file is a list of bytes
pub record Accepted (b : Bytes) : Type 0 where
  pub bytes : (i : ℕ) → byte_at b i < 256
  pub none_applies : (r : FileRow) (v : ℕ) → FileApplies b r v → ⊥

-- A question that no row before 14 turns away: an accepted file, buffers that are long enough, a table that holds the file's distances, an
-- arrangement of ranks, and a link, an end and a prefix of the file, as far as the call has them. "work area is enough when row 10 doesn't
-- apply"
pub record Posed (q : Question) : Type 0 where
  pub file : Accepted q.file
  pub cells : HasInput q some_cells → (network_asked q).routers * (network_asked q).routers ≤ q.cells
  pub table : HasInput q a_table → HoldsDistances (network_asked q) q.table
  pub buffer : HasInput q (lent route_buffer) → 2 * (network_asked q).routers ≤ q.buffer
  pub ranks : HasInput q a_rank_table → Arrangement q.ranks
  pub link : HasInput q a_link → q.link < length (network_asked q).links
  pub end : HasInput q a_link → q.end ≤ 1
  pub prefix : HasInput q a_prefix → q.prefix < length (network_asked q).prefixes
