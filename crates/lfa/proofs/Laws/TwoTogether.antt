-- The second call of Point 7 answers as the single call does, where the lent table holds the file's distances: both are turned away alike, and
-- compute the same.
-- Assumes nothing.
use Rattle.std.specs.Prelude.{ℕ, ◌*◌, ◌≤◌, ◌<◌, ◌⊎◌, Bool, leb, eqb, length}
use Rattle.std.proofs.Math.Path.{◌≡◌, refl, sym, ap, ap₂, subst}
use Rattle.std.proofs.Common.{◌∙◌, inr, arith}
use Rattle.std.proofs.Math.Logic.{inl}
use Rattle.std.proofs.Math.Bool.{true, false}
use Rattle.std.proofs.Math.Option.{Option, none, some}
use mathlib.Core.List.{List, [], ◌∷◌, ◌++◌}
use Rattle.std.proofs.Math.ListN.{drop}
use borrow.Author.Tests.{leb-true, eqb-true, eqb-false}
use Rattle.lfa.specs.Lists.{unless, select, any_of, member_of}
use Rattle.lfa.specs.File.{byte_at, routers_of, network_of}
use Rattle.lfa.specs.Distance.{HoldsDistances}
use Rattle.lfa.specs.Repair.{Outcome, prefix_unreachable, prefix_untouched, none_serves, serving}
use Rattle.lfa.specs.Question.{Question, own_fill, lent_table, Call, load, fill, space, link_repair, prefix_repair, route, second_call, with_table, route_buffer, a_table, inputs_of, cells_from, input_number, has_input, HasInput, network_asked, link_asked, prefix_asked, with_distances, link_found, prefix_found, searched, if_none}
use Rattle.lfa.specs.Refusal.{FileRow, Row, of_file, early, short_area, wrong_table, short_buffer, bad_ranks, no_such_link, no_such_prefix, no_pair, entry_of, early_rows, question_rows, all_rows, tries, rows_tried, Decided, first_row, file_refusal, refusal_of, returned, sized_returned, Accepted}
use Rattle.lfa.specs.Answer.{Answer, refusal, route_for, route_answer, route_played, computed, answer_to, written_to, exit_by, exit_of}
use Rattle.lfa.specs.Demands.{TwoTogether}
use Rattle.lfa.proofs.Laws.Test.{decide}
use Rattle.lfa.proofs.Laws.FirstFailing.{unless_none}
use Rattle.lfa.proofs.Laws.Holds.{holds_make}
use Rattle.lfa.proofs.Laws.Rows.{Alike, nothing, decides_after, alike_decides}
use Rattle.lfa.proofs.Laws.FileRows.{same_number, loaded_rows, refused_file, load_accepted}

-- ---- the rows

-- the rows but that of the table are tried by both calls or by neither
tries_alike : (c : Call) (r : Row) → (r ≡ early wrong_table → ⊥) → tries (second_call c) r ≡ tries c r
unfolding tries entry_of second_call has_input inputs_of cells_from input_number member_of any_of
tries_alike load r h = refl
tries_alike fill r h = refl
tries_alike (space s) r h = refl
tries_alike (link_repair lent_table) r h = refl
tries_alike (prefix_repair lent_table) r h = refl
tries_alike (route lent_table) r h = refl
tries_alike (link_repair own_fill) (of_file r) h = refl
tries_alike (link_repair own_fill) (early short_area) h = refl
tries_alike (link_repair own_fill) (early wrong_table) h = absurd (h refl)
tries_alike (link_repair own_fill) (early short_buffer) h = refl
tries_alike (link_repair own_fill) (early bad_ranks) h = refl
tries_alike (link_repair own_fill) (early no_such_link) h = refl
tries_alike (link_repair own_fill) (early no_such_prefix) h = refl
tries_alike (link_repair own_fill) no_pair h = refl
tries_alike (prefix_repair own_fill) (of_file r) h = refl
tries_alike (prefix_repair own_fill) (early short_area) h = refl
tries_alike (prefix_repair own_fill) (early wrong_table) h = absurd (h refl)
tries_alike (prefix_repair own_fill) (early short_buffer) h = refl
tries_alike (prefix_repair own_fill) (early bad_ranks) h = refl
tries_alike (prefix_repair own_fill) (early no_such_link) h = refl
tries_alike (prefix_repair own_fill) (early no_such_prefix) h = refl
tries_alike (prefix_repair own_fill) no_pair h = refl
tries_alike (route own_fill) (of_file r) h = refl
tries_alike (route own_fill) (early short_area) h = refl
tries_alike (route own_fill) (early wrong_table) h = absurd (h refl)
tries_alike (route own_fill) (early short_buffer) h = refl
tries_alike (route own_fill) (early bad_ranks) h = refl
tries_alike (route own_fill) (early no_such_link) h = refl
tries_alike (route own_fill) (early no_such_prefix) h = refl
tries_alike (route own_fill) no_pair h = refl

module _ (q : Question) (table : List ℕ) (long : length table ≡ q.cells) (single : HasInput q a_table → ⊥) where
  abbrev other : Question
  other = with_table table q

  -- what is found does not depend on where the distances come from
  searched_alike : (c : Call) → searched other (second_call c) ≡ searched q c
  unfolding searched second_call with_table link_found prefix_found with_distances network_asked link_asked prefix_asked
  searched_alike load = refl
  searched_alike fill = refl
  searched_alike (space s) = refl
  searched_alike (link_repair from) = refl
  searched_alike (prefix_repair from) = refl
  searched_alike (route from) = refl

  -- the rows but that of the table return the same
  returns_alike : (r : Row) → (r ≡ early wrong_table → ⊥) → returned other r ≡ returned q r
  unfolding returned sized_returned with_table
  returns_alike (of_file r) h = refl
  returns_alike (early short_area) h = ap (λ (k : ℕ). unless (leb (routers_of q.file * routers_of q.file) k) (routers_of q.file * routers_of q.file)) long
  returns_alike (early wrong_table) h = absurd (h refl)
  returns_alike (early short_buffer) h = refl
  returns_alike (early bad_ranks) h = refl
  returns_alike (early no_such_link) h = refl
  returns_alike (early no_such_prefix) h = refl
  returns_alike no_pair h = ap (λ (o : Option Outcome). if_none o 0) (searched_alike q.call)

  cells_enough : returned q (early short_area) ≡ none → (network_asked q).routers * (network_asked q).routers ≤ length table
  unfolding returned sized_returned network_asked network_of
  cells_enough e = omega (arith, long, leb-true (routers_of q.file * routers_of q.file) q.cells (unless_none _ _ e))

  untried : tries q.call (early wrong_table) ≡ false
  unfolding tries entry_of
  untried = go (has_input q.call a_table) refl
    where
      go : (b : Bool) → has_input q.call a_table ≡ b → has_input q.call a_table ≡ false
      go true e = absurd (single e)
      go false e = e

  passes : HoldsDistances (network_asked q) table → returned other (early wrong_table) ≡ none
  unfolding returned sized_returned with_table network_asked unless
  passes right = ap (λ (b : Bool). unless b 0) (holds_make (network_asked q) table right)

  -- with a right table all rows decide alike: the second call finds nothing in the row that the single call does not try
  right_alike : HoldsDistances (network_asked q) table → (r : Row) → Alike (returned other) (returned q) (tries (second_call q.call)) (tries q.call) r
  unfolding entry_of
  right_alike right r = go (decide (eqb (entry_of r).number 18))
    where
      go : (eqb (entry_of r).number 18 ≡ true) ⊎ (eqb (entry_of r).number 18 ≡ false) → Alike (returned other) (returned q) (tries (second_call q.call)) (tries q.call) r
      go (inl t) = subst (Alike (returned other) (returned q) (tries (second_call q.call)) (tries q.call)) (sym (same_number r (early wrong_table) (eqb-true _ _ t))) (inr (passes right, untried))
      go (inr t) =
          let not-18 : r ≡ early wrong_table → ⊥ = λ e. eqb-false _ _ t (ap (λ (s : Row). (entry_of s).number) e) in
          inl (tries_alike q.call r not-18, λ h. returns_alike r not-18)

  -- the rows after row 10
  abbrev rest : List Row
  rest = early wrong_table ∷ early short_buffer ∷ early bad_ranks ∷ early no_such_link ∷ early no_such_prefix ∷ no_pair ∷ []

  both_short : (v : ℕ) → returned q (early short_area) ≡ some v → (c : Call) → first_row (returned other) (select (tries (second_call c)) (early short_area ∷ rest)) ≡ first_row (returned q) (select (tries c) (early short_area ∷ rest))
  unfolding second_call tries entry_of has_input inputs_of input_number member_of any_of select first_row
  both_short v short = go
    where
      turned : (c d : Call) → tries c (early short_area) ≡ true → tries d (early short_area) ≡ true → first_row (returned other) (select (tries c) (early short_area ∷ rest)) ≡ first_row (returned q) (select (tries d) (early short_area ∷ rest))
      turned c d t u =
          decides_after (returned other) (tries c) rest (early short_area) v nothing t (returns_alike (early short_area) (λ e. absurd (let z : ◌≡◌ {A = ℕ} 0 1 = cc in omega arith)) ∙ short)
          ∙ sym (decides_after (returned q) (tries d) rest (early short_area) v nothing u short)

      go : (c : Call) → first_row (returned other) (select (tries (second_call c)) (early short_area ∷ rest)) ≡ first_row (returned q) (select (tries c) (early short_area ∷ rest))
      go load = refl
      go fill = turned fill fill refl refl
      go (space s) = turned (space s) (space s) refl refl
      go (link_repair from) = turned (link_repair lent_table) (link_repair from) refl refl
      go (prefix_repair from) = turned (prefix_repair lent_table) (prefix_repair from) refl refl
      go (route from) = turned (route lent_table) (route from) refl refl

  -- where the cells are too few, both calls are turned away by that row, the first after those of the file
  short_alike : file_refusal q.file ≡ none → (v : ℕ) → returned q (early short_area) ≡ some v → refusal_of other ≡ refusal_of q
  unfolding question_rows early_rows with_table
  short_alike loaded v short = loaded_rows other loaded ∙ both_short v short q.call ∙ sym (loaded_rows q loaded)

  -- so in every case the two are turned away alike
  pub refused_alike : ((i : ℕ) → byte_at q.file i < 256) → (Accepted q.file → (network_asked q).routers * (network_asked q).routers ≤ length table → HoldsDistances (network_asked q) table) → refusal_of other ≡ refusal_of q
  unfolding with_table refusal_of rows_tried
  refused_alike bytes right = by_file (file_refusal q.file) refl
    where
      by_cells : file_refusal q.file ≡ none → (o : Option ℕ) → returned q (early short_area) ≡ o → refusal_of other ≡ refusal_of q
      by_cells loaded (some v) short = short_alike loaded v short
      by_cells loaded none enough =
          let a = load_accepted q.file bytes loaded in
          alike_decides (returned other) (returned q) (tries (second_call q.call)) (tries q.call) all_rows (λ r m. right_alike (right a (cells_enough enough)) r)

      by_file : (o : Option (Decided FileRow)) → file_refusal q.file ≡ o → refusal_of other ≡ refusal_of q
      by_file (some d) e = refused_file other d e ∙ sym (refused_file q d e)
      by_file none e = by_cells e (returned q (early short_area)) refl

  -- what is computed is the same, and so is what is written into the route buffer
  route_alike : (o : Outcome) → route_for other o ≡ route_for q o
  unfolding route_for with_table with_distances network_asked link_asked prefix_asked
  route_alike prefix_unreachable = refl
  route_alike prefix_untouched = refl
  route_alike none_serves = refl
  route_alike (serving t) = refl

  played_alike : route_played other ≡ route_played q
  unfolding route_played with_table prefix_found with_distances network_asked link_asked prefix_asked
  played_alike = route_alike (prefix_found q)

  computed_alike : (c : Call) → computed other (second_call c) ≡ computed q c
  unfolding computed second_call with_table link_found prefix_found with_distances network_asked link_asked prefix_asked
  computed_alike load = refl
  computed_alike fill = refl
  computed_alike (space s) = refl
  computed_alike (link_repair from) = refl
  computed_alike (prefix_repair from) = refl
  computed_alike (route from) = ap (λ (rs : List ℕ). route_answer (prefix_found q) (length rs)) played_alike

  written_alike : (before : List ℕ) → written_to other route_buffer before ≡ written_to q route_buffer before
  unfolding written_to
  written_alike before = ap (λ (rs : List ℕ). rs ++ drop (length rs) before) played_alike

  pub two_together : refusal_of other ≡ refusal_of q → TwoTogether q table
  unfolding answer_to exit_of with_table
  two_together same = (
    ap₂ (λ (o : Option (Decided Row)) (a : Answer). elim o [ some r ↦ refusal r | none ↦ a ]) same (computed_alike q.call),
    λ h before. ap₂ (λ (o : Option (Decided Row)) (w : List ℕ). exit_by o route_buffer before w) same (written_alike before),
  )
