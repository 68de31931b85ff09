-- The rows of a file: they are tried before those of a question and are the same for every call; every row stands in the list from which a
-- call's rows are selected; and a file is accepted exactly when each test passes everywhere.
-- Assumes nothing.
use Rattle.std.specs.Prelude.{ℕ, ◌-◌, ◌<◌, ◌⊎◌, ◌↔◌, true, eqb}
use Rattle.std.proofs.Math.Path.{◌≡◌, refl}
use Rattle.std.proofs.Common.{sym, ap, ◌∙◌, inl, inr, arith}
use Rattle.std.proofs.Math.Option.{Option, none, some}
use mathlib.Core.List.Memᴰ
use mathlib.Core.List.{List, [], ◌∷◌, ◌++◌, map, Memᴰ}
use Rattle.lfa.specs.Lists.{select, any_of, member_of}
use Rattle.lfa.specs.File.{Bytes, byte_at, blocks_in, blocks_needed, links_of, prefixes_of, check_good, block_good, link_good, link_new, prefix_good, routers_new}
use Rattle.lfa.specs.Question.{Question, Call, load, fill, space, link_repair, prefix_repair, route, a_file, inputs_of, input_number, has_input, loading}
use Rattle.lfa.specs.Refusal.{FileApplies, FileRow, bad_length, bad_check, bad_head, bad_block_count, bad_block, bad_link, parallel_link, bad_prefix, router_twice, file_returned, file_number, file_rows, EarlyRow, short_area, wrong_table, short_buffer, bad_ranks, no_such_link, no_such_prefix, Row, of_file, early, no_pair, returned, entry_of, question_rows, all_rows, tries, rows_tried, Decided, decided, first_row, in_file, or_later, early_rows, file_refusal, refusal_of, Accepted}
use Rattle.lfa.proofs.Laws.List.{select_gives, select_make}
use Rattle.lfa.proofs.Laws.FirstFailing.{none_failing, all_passing, unless_none, unless_good}
use Rattle.lfa.proofs.Laws.File.Passes.{AreBytes, Passes}
use Rattle.lfa.proofs.Laws.Causes.{file_row_applies}
use Rattle.lfa.proofs.Laws.Rows.{none_decides, none_applies}

-- ---- the rows of a file come first

-- every call has a file
pub has_file_lem : (c : Call) → has_input c a_file ≡ true
unfolding has_input inputs_of input_number member_of any_of
has_file_lem load = refl
has_file_lem fill = refl
has_file_lem (space s) = refl
has_file_lem (link_repair f) = refl
has_file_lem (prefix_repair f) = refl
has_file_lem (route f) = refl

pub tries_file : (c : Call) (r : FileRow) → tries c (of_file r) ≡ true
unfolding tries entry_of
tries_file c r = has_file_lem c

module _ (q : Question) where
  -- the rows of the question alone
  abbrev pub QuestionRefusal : Option (Decided Row)
  QuestionRefusal = first_row (returned q) (select (tries q.call) question_rows)

  file_before : (rows : List FileRow) →
      first_row (returned q) (select (tries q.call) (map of_file rows ++ question_rows)) ≡ or_later (first_row (file_returned q.file) rows) QuestionRefusal
  unfolding select first_row or_later in_file returned
  file_before [] = refl
  file_before (r ∷ rows) = rw (tries_file q.call r) (go (file_returned q.file r) refl (file_before rows))
    where
      go : (o : Option ℕ) → file_returned q.file r ≡ o → first_row (returned q) (select (tries q.call) (map of_file rows ++ question_rows)) ≡ or_later (first_row (file_returned q.file) rows) QuestionRefusal →
          ◌≡◌ {A = Option (Decided Row)} (elim o as (λ _. Option (Decided Row)) [ some v ↦ some (decided (of_file r) v) | none ↦ first_row (returned q) (select (tries q.call) (map of_file rows ++ question_rows)) ])
          (or_later (elim o as (λ _. Option (Decided FileRow)) [ some v ↦ some (decided r v) | none ↦ first_row (file_returned q.file) rows ]) QuestionRefusal)
      go (some v) p e = refl
      go none p e = e

  -- A question is turned away by the rows of its file, or else by its own.
  pub file_first : refusal_of q ≡ or_later (file_refusal q.file) QuestionRefusal
  unfolding refusal_of rows_tried all_rows file_refusal
  file_first = file_before file_rows

  -- what turns the file away turns every question about it away, with the same number and value
  pub refused_file : (d : Decided FileRow) → file_refusal q.file ≡ some d → refusal_of q ≡ some (in_file d)
  unfolding or_later
  refused_file d e = file_first ∙ rw e

  -- where nothing turns the file away, only the rows of the question are left
  pub loaded_rows : file_refusal q.file ≡ none → refusal_of q ≡ QuestionRefusal
  unfolding or_later
  loaded_rows e = file_first ∙ rw e

-- the rows of `load` are those of its file
pub load_passes : (b : Bytes) → file_refusal b ≡ none → refusal_of (loading b) ≡ none
unfolding loading question_rows early_rows select tries entry_of has_input inputs_of input_number member_of any_of first_row
load_passes b e = loaded_rows (loading b) e

-- ---- every row stands in the list

pub first_listed : {R : Type 0} {r : R} {rows : List R} → Memᴰ r (r ∷ rows)
first_listed = Memᴰ.head refl

file_row_listed : (r : FileRow) → Memᴰ r file_rows
unfolding file_rows
file_row_listed bad_length = search (first_listed, Memᴰ.tail) depth 12
file_row_listed bad_check = search (first_listed, Memᴰ.tail) depth 12
file_row_listed bad_head = search (first_listed, Memᴰ.tail) depth 12
file_row_listed bad_block_count = search (first_listed, Memᴰ.tail) depth 12
file_row_listed bad_block = search (first_listed, Memᴰ.tail) depth 12
file_row_listed bad_link = search (first_listed, Memᴰ.tail) depth 12
file_row_listed parallel_link = search (first_listed, Memᴰ.tail) depth 12
file_row_listed bad_prefix = search (first_listed, Memᴰ.tail) depth 12
file_row_listed router_twice = search (first_listed, Memᴰ.tail) depth 12

early_row_listed : (r : EarlyRow) → Memᴰ r early_rows
unfolding early_rows
early_row_listed short_area = search (first_listed, Memᴰ.tail) depth 8
early_row_listed wrong_table = search (first_listed, Memᴰ.tail) depth 8
early_row_listed short_buffer = search (first_listed, Memᴰ.tail) depth 8
early_row_listed bad_ranks = search (first_listed, Memᴰ.tail) depth 8
early_row_listed no_such_link = search (first_listed, Memᴰ.tail) depth 8
early_row_listed no_such_prefix = search (first_listed, Memᴰ.tail) depth 8

listed_as : {R S : Type 0} (f : R → S) (r : R) (rows : List R) → Memᴰ r rows → Memᴰ (f r) (map f rows)
listed_as f r [] m = absurd (Memᴰ.not-nil m)
listed_as f r (s ∷ rows) m = go (listed_as f r rows) (Memᴰ.cases_cons m)
  where
    go : (Memᴰ r rows → Memᴰ (f r) (map f rows)) → (r ≡ s) ⊎ Memᴰ r rows → Memᴰ (f r) (map f (s ∷ rows))
    go rest (inl e) = Memᴰ.head (ap f e)
    go rest (inr m) = Memᴰ.tail (rest m)

pub early_listed : (r : EarlyRow) → Memᴰ (early r) (map early early_rows)
early_listed r = listed_as early r early_rows (early_row_listed r)

row_listed : (r : Row) → Memᴰ r all_rows
unfolding all_rows question_rows
row_listed (of_file r) = Memᴰ.append_left question_rows (listed_as of_file r file_rows (file_row_listed r))
row_listed (early r) = Memᴰ.append_right (map of_file file_rows) (Memᴰ.append_left (no_pair ∷ []) (early_listed r))
row_listed no_pair = Memᴰ.append_right (map of_file file_rows) (Memᴰ.append_right (map early early_rows) first_listed)

-- ---- every row has a number of its own

-- the rows with a number
numbered : ℕ → List Row
numbered k = select (λ r. eqb (entry_of r).number k) all_rows

numbered_once : (r : Row) → numbered (entry_of r).number ≡ r ∷ []
unfolding numbered select all_rows file_rows question_rows early_rows entry_of file_number
numbered_once (of_file bad_length) = refl
numbered_once (of_file bad_check) = refl
numbered_once (of_file bad_head) = refl
numbered_once (of_file bad_block_count) = refl
numbered_once (of_file bad_block) = refl
numbered_once (of_file bad_link) = refl
numbered_once (of_file parallel_link) = refl
numbered_once (of_file bad_prefix) = refl
numbered_once (of_file router_twice) = refl
numbered_once (early short_area) = refl
numbered_once (early wrong_table) = refl
numbered_once (early short_buffer) = refl
numbered_once (early bad_ranks) = refl
numbered_once (early no_such_link) = refl
numbered_once (early no_such_prefix) = refl
numbered_once no_pair = refl

-- the rows with the number of a row are that row alone, so that rows with the same number are the same
pub same_number : (r s : Row) → (entry_of r).number ≡ (entry_of s).number → r ≡ s
same_number r s e = let one : r ∷ [] ≡ s ∷ [] = sym (numbered_once r) ∙ ap numbered e ∙ numbered_once s in cc

-- A call tries just the rows that it has inputs for: no row is left out of the list from which they are selected.
pub tried_rows : (c : Call) (r : Row) → Memᴰ r (rows_tried c) ↔ (has_input c (entry_of r).input ≡ true)
unfolding rows_tried tries
tried_rows c r = (λ m. (select_gives (tries c) all_rows m).1, λ h. select_make (tries c) (row_listed r) h)

-- ---- accepted files

-- a row that does not apply to a file returns nothing
accepted_returns : (b : Bytes) → Accepted b → (r : FileRow) → file_returned b r ≡ none
accepted_returns b a r = go (file_returned b r) refl
  where
    go : (o : Option ℕ) → file_returned b r ≡ o → file_returned b r ≡ none
    go none p = p
    go (some v) p = absurd (a.none_applies r v ((file_row_applies b r v).0 p))

returns_accepted : (b : Bytes) → ((i : ℕ) → byte_at b i < 256) → ((r : FileRow) → file_returned b r ≡ none) → Accepted b
returns_accepted b bytes h = record { bytes = bytes; none_applies = applies }
  where
    applies : (r : FileRow) (v : ℕ) → FileApplies b r v → ⊥
    applies r v a = let s = (file_row_applies b r v).1 a in let n = h r in let z : ◌≡◌ {A = ℕ} 0 1 = cc in omega arith

-- a file is accepted exactly when no row turns it away
pub accepted_passes_rows : (b : Bytes) → Accepted b → file_refusal b ≡ none
unfolding file_refusal
accepted_passes_rows b a = none_applies (file_returned b) file_rows (λ r m. accepted_returns b a r)

pub load_accepted : (b : Bytes) → ((i : ℕ) → byte_at b i < 256) → file_refusal b ≡ none → Accepted b
unfolding file_refusal
load_accepted b h e = returns_accepted b h (λ r. none_decides (file_returned b) file_rows e r (file_row_listed r))

-- a file is accepted exactly when each test passes everywhere
pub accepted_passes : (b : Bytes) → Accepted b → Passes b
unfolding file_returned
accepted_passes b a = record {
  row1 = unless_none _ _ (accepted_returns b a bad_length);
  row2 = λ i h. none_failing (check_good b) 0 (blocks_in b) (accepted_returns b a bad_check) i (omega arith) (omega arith);
  row3 = unless_none _ _ (accepted_returns b a bad_head);
  row4 = unless_none _ _ (accepted_returns b a bad_block_count);
  row5 = λ i h k. none_failing (block_good b) 1 (blocks_in b - 1) (accepted_returns b a bad_block) i h (omega arith);
  row6 = λ k h. none_failing (link_good b) 0 (links_of b) (accepted_returns b a bad_link) k (omega arith) (omega arith);
  row7 = λ k h. none_failing (link_new b) 0 (links_of b) (accepted_returns b a parallel_link) k (omega arith) (omega arith);
  row8 = λ k h. none_failing (prefix_good b) 0 (prefixes_of b) (accepted_returns b a bad_prefix) k (omega arith) (omega arith);
  row9 = λ k h. none_failing (routers_new b) 0 (prefixes_of b) (accepted_returns b a router_twice) k (omega arith) (omega arith);
}

passes_none : (b : Bytes) → Passes b → (r : FileRow) → file_returned b r ≡ none
unfolding file_returned
passes_none b p bad_length = unless_good _ 0 p.row1
passes_none b p bad_check = all_passing (check_good b) 0 (blocks_in b) (λ k h l. p.row2 k (omega arith))
passes_none b p bad_head = unless_good _ 0 p.row3
passes_none b p bad_block_count = unless_good _ (blocks_needed (links_of b) (prefixes_of b)) p.row4
passes_none b p bad_block = all_passing (block_good b) 1 (blocks_in b - 1) (λ k h l. p.row5 k h (omega arith))
passes_none b p bad_link = all_passing (link_good b) 0 (links_of b) (λ k h l. p.row6 k (omega arith))
passes_none b p parallel_link = all_passing (link_new b) 0 (links_of b) (λ k h l. p.row7 k (omega arith))
passes_none b p bad_prefix = all_passing (prefix_good b) 0 (prefixes_of b) (λ k h l. p.row8 k (omega arith))
passes_none b p router_twice = all_passing (routers_new b) 0 (prefixes_of b) (λ k h l. p.row9 k (omega arith))

pub passes_accepted : (b : Bytes) → AreBytes b → Passes b → Accepted b
unfolding byte_at
passes_accepted b bytes p = returns_accepted b bytes.small (passes_none b p)
