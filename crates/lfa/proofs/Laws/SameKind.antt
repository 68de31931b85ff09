-- Two tables of ranks: whether a pair is found does not depend on the order in which pairs are compared, so that under two arrangements
-- the same row decides, and what is computed is of one kind.
-- Assumes nothing.
use Rattle.std.specs.Prelude.{ℕ, ◌≡◌, ltb}
use Rattle.std.proofs.Math.Path.{refl, ap}
use Rattle.std.proofs.Math.Bool.{Bool, true, false}
use Rattle.std.proofs.Math.Option.{Option, none, some}
use mathlib.Core.List.{List, [], ◌∷◌}
use Rattle.lfa.specs.Lists.{select, unless}
use Rattle.lfa.specs.Network.{Arc, Target, router}
use Rattle.lfa.specs.Distance.{unreachable, towards}
use Rattle.lfa.specs.Space.{Protected}
use Rattle.lfa.specs.Ranks.{is_arrangement}
use Rattle.lfa.specs.Repair.{Pair, serves, pairs, may_cross, no_later, earlier, choose, pair_key, first_pair, Told, Outcome, prefix_unreachable, prefix_untouched, none_serves, serving, outcome_of, link_outcome, prefix_outcome}
use Rattle.lfa.specs.Question.{Question, Call, load, fill, space, link_repair, prefix_repair, route, with_ranks, network_asked, link_asked, prefix_asked, with_distances, link_found, prefix_found, searched, if_none}
use Rattle.lfa.specs.Refusal.{short_area, wrong_table, short_buffer, bad_ranks, no_such_link, no_such_prefix, Row, of_file, early, no_pair, returned, sized_returned}
use Rattle.lfa.specs.Answer.{repair_answer, route_answer, computed}
use Rattle.lfa.specs.Demands.{SameKind, one_answer, two_repairs, two_routes}

-- ---- what is found

-- two outcomes of one kind
pub data SameFound : Outcome → Outcome → Type 0 where
  one_outcome : {a b : Outcome} → a ≡ b → SameFound a b
  two_pairs : {t u : Told} → SameFound (serving t) (serving u)

module _ (n : ℕ) (hops : List Arc) (d : ℕ → ℕ → ℕ) (q : Protected) (to : Target) where
  -- one of two pairs is chosen, whichever it is
  either_serves : (p : Pair) (o : Option Pair) (k : Pair → List ℕ) → (t : Told) × (outcome_of n hops d q to (earlier k p o) ≡ serving t)
  unfolding earlier outcome_of
  either_serves p none k = (_, refl)
  either_serves p (some r) k = go (no_later (k p) (k r))
    where
      go : (b : Bool) → (t : Told) × (outcome_of n hops d q to (elim b as (λ _. Option Pair) [ true ↦ some p | false ↦ some r ]) ≡ serving t)
      go true = (_, refl)
      go false = (_, refl)

  -- a pair is chosen from every list but the empty one, whatever the order
  chosen_alike : (k m : Pair → List ℕ) (ps : List Pair) → SameFound (outcome_of n hops d q to (choose k ps)) (outcome_of n hops d q to (choose m ps))
  unfolding choose
  chosen_alike k m [] = one_outcome refl
  chosen_alike k m (p ∷ ps) =
      let a = either_serves p (choose k ps) k in
      let b = either_serves p (choose m ps) m in
      rw (a.1, b.1) two_pairs

module _ (ranks others : List ℕ) (n : ℕ) (hops : List Arc) (d : ℕ → ℕ → ℕ) (q : Protected) where
  searched_alike : (to : Target) → SameFound (outcome_of n hops d q to (first_pair ranks n hops d q to)) (outcome_of n hops d q to (first_pair others n hops d q to))
  unfolding first_pair
  searched_alike to = chosen_alike n hops d q to (pair_key ranks n hops d q to) (pair_key others n hops d q to) (select (serves n hops d q to) (pairs q n hops))

  link_alike : SameFound (link_outcome ranks n hops d q) (link_outcome others n hops d q)
  unfolding link_outcome
  link_alike = searched_alike (router q.far)

  prefix_alike : (to : Target) → SameFound (prefix_outcome ranks n hops d q to) (prefix_outcome others n hops d q to)
  unfolding prefix_outcome
  prefix_alike to = go (ltb (towards d to q.near) unreachable) (may_cross n hops d q to)
    where
      outcome : Bool → Bool → Outcome → Outcome
      outcome a b o = elim a [ false ↦ prefix_unreachable | true ↦ elim b [ false ↦ prefix_untouched | true ↦ o ] ]

      go : (a b : Bool) → SameFound (outcome a b (outcome_of n hops d q to (first_pair ranks n hops d q to))) (outcome a b (outcome_of n hops d q to (first_pair others n hops d q to)))
      go false b = one_outcome refl
      go true false = one_outcome refl
      go true true = searched_alike to

-- ---- what is answered

-- row 14 applies to both or to neither
none_alike : {a b : Outcome} → SameFound a b → if_none (some a) 0 ≡ if_none (some b) 0
unfolding if_none
none_alike (one_outcome e) = ap (λ (o : Outcome). if_none (some o) 0) e
none_alike two_pairs = refl

repairs_alike : {a b : Outcome} → SameFound a b → SameKind (repair_answer a) (repair_answer b)
unfolding repair_answer
repairs_alike (one_outcome e) = one_answer (ap repair_answer e)
repairs_alike two_pairs = two_repairs

routes_alike : {a b : Outcome} (m k : ℕ) → SameFound a b → SameKind (route_answer a m) (route_answer b k)
unfolding route_answer
routes_alike {a} {b} m k (one_outcome e) = rw e (go b)
  where
    go : (o : Outcome) → SameKind (route_answer o m) (route_answer o k)
    go prefix_unreachable = one_answer refl
    go prefix_untouched = one_answer refl
    go none_serves = one_answer refl
    go (serving t) = two_routes
routes_alike m k two_pairs = two_routes

module _ (q : Question) (ranks : List ℕ) where
  abbrev other : Question
  other = with_ranks ranks q

  link_found_alike : SameFound (link_found q) (link_found other)
  unfolding link_found with_distances network_asked link_asked with_ranks
  link_found_alike = link_alike q.ranks ranks _ _ _ _

  prefix_found_alike : SameFound (prefix_found q) (prefix_found other)
  unfolding prefix_found with_distances network_asked link_asked prefix_asked with_ranks
  prefix_found_alike = prefix_alike q.ranks ranks _ _ _ _ _

  last_alike : (c : Call) → if_none (searched q c) 0 ≡ if_none (searched other c) 0
  unfolding searched
  last_alike load = refl
  last_alike fill = refl
  last_alike (space s) = refl
  last_alike (link_repair from) = none_alike link_found_alike
  last_alike (prefix_repair from) = none_alike prefix_found_alike
  last_alike (route from) = none_alike prefix_found_alike

  pub computed_alike : (c : Call) → SameKind (computed q c) (computed other c)
  computed_alike load = unfold computed in one_answer refl
  computed_alike fill = unfold computed in one_answer refl
  computed_alike (space s) = unfold computed with_distances network_asked link_asked with_ranks in one_answer refl
  computed_alike (link_repair from) = unfold computed in repairs_alike link_found_alike
  computed_alike (prefix_repair from) = unfold computed in repairs_alike prefix_found_alike
  computed_alike (route from) = unfold computed in routes_alike _ _ prefix_found_alike

  -- only row 15 looks at the ranks
  pub returned_alike : (r : Row) → (r ≡ early bad_ranks → is_arrangement q.ranks ≡ is_arrangement ranks) → returned q r ≡ returned other r
  unfolding returned sized_returned network_asked with_ranks
  returned_alike (of_file r) same = refl
  returned_alike (early short_area) same = refl
  returned_alike (early wrong_table) same = refl
  returned_alike (early short_buffer) same = refl
  returned_alike (early bad_ranks) same = ap (λ (b : Bool). unless b 0) (same refl)
  returned_alike (early no_such_link) same = refl
  returned_alike (early no_such_prefix) same = refl
  returned_alike no_pair same = last_alike q.call
