-- Point 1 changes nothing but which neighbours are first hops: where each link from S but to E is in service, and for the calls that do not
-- look at first hops, every answer and every buffer is as it was before.
-- Assumes nothing.
use Prim.Native.Nat.{ℕ, zero, suc, ◌<◌}
use Rattle.std.specs.Prelude.{◌≡◌, ◌&&◌, get_or}
use Rattle.std.proofs.Math.Path.{refl, sym, ap, ap₂}
use Rattle.std.proofs.Common.{◌∙◌, subst, arith}
use Rattle.std.proofs.Math.Bool.{Bool, true, false, not}
use Rattle.std.proofs.Math.Option.{Option, none, some}
use mathlib.Core.List.{List, [], ◌∷◌, ◌++◌, map, Memᴰ}
use Rattle.std.proofs.Math.Dec.{eqb, ltb}
use Rattle.std.proofs.Math.ListN.{length, drop}
use borrow.Author.Tests.{lt-ltb, eqb-true, eqb-false}
use Rattle.lfa.specs.Lists.{any_of, flat, select, keep_if}
use Rattle.lfa.specs.Network.{Link, link, Arc, arc, Target, router}
use Rattle.lfa.specs.Distance.{unreachable, towards}
use Rattle.lfa.specs.Walk.{avoids}
use Rattle.lfa.specs.Space.{under_maintenance, Protected, protected_by, protected, is_first, hop_over, first_hops, FirstHop, Space, p_space, extended_p, q_space, in_space, space_of, set_of}
use Rattle.lfa.specs.Repair.{Pair, is_endpoint, pairs_of, pairs, serves, may_cross, node_protects, base_class_of, class_of, told_of, pair_key, choose, first_pair, Outcome, prefix_unreachable, prefix_untouched, none_serves, serving, outcome_of, link_outcome, prefix_outcome}
use Rattle.lfa.specs.Question.{Question, Call, load, fill, space, link_repair, prefix_repair, route, without_maintenance, LooksAtFirstHops, Buffer, work_area, route_buffer, lent, HasInput, network_asked, link_asked, prefix_asked, with_distances, link_found, prefix_found, searched, if_none}
use Rattle.lfa.specs.Refusal.{Row, of_file, early, no_pair, Decided, returned, tries, all_rows, rows_tried, refusal_of}
use Rattle.lfa.specs.Answer.{Answer, set, refusal, route_for, route_played, route_answer, repair_answer, computed, answer_to, written_to, exit_by, exit_of}
use Rattle.lfa.specs.Route.{route_of}
use Rattle.lfa.proofs.Laws.Rows.{same_decides}
use Rattle.lfa.proofs.Laws.Causes.{early_numbers}
use Rattle.lfa.proofs.Laws.Replies.{has_buffer}
use Rattle.lfa.specs.Demands.{Hops, D, IsNeighbour, SameReply}

-- ---- the first hops

-- the same link, none under maintenance
unfoldable pub unlimited : Protected → Protected
unlimited q = record { number = q.number; near = q.near; far = q.far; out = q.out; back = q.back; maintenance = 65536 }

seen_unlimited : (m l e : ℕ) (k : Link) → protected_by 65536 l e k ≡ unlimited (protected_by m l e k)
unfolding protected_by unlimited
seen_unlimited m l zero (link a b ab ba) = refl
seen_unlimited m l (suc e) (link a b ab ba) = refl

module _ (q : Protected) (at : q.maintenance ≡ under_maintenance) where
  -- a test that asks less of the cost is the same where the cost is small
  tests_same : (a : Arc) → ((z c l : ℕ) → a ≡ arc q.near z c l → (z ≡ q.far → ⊥) → c < under_maintenance) → is_first q a ≡ is_first (unlimited q) a
  unfolding is_first unlimited
  tests_same (arc x z c l) small = go (eqb x q.near) refl (eqb z q.far) refl
    where
      go : (s : Bool) → eqb x q.near ≡ s → (t : Bool) → eqb z q.far ≡ t → (s && not t && ltb c q.maintenance) ≡ (s && not t && ltb c 65536)
      go false e t f = refl
      go true e true f = refl
      go true e false f =
          let same : arc x z c l ≡ arc q.near z c l = ap (λ (y : ℕ). arc y z c l) (eqb-true x q.near e) in
          let few : c < under_maintenance = small z c l same (eqb-false z q.far f) in
          lt-ltb c q.maintenance (omega (arith, at, few)) ∙ sym (lt-ltb c 65536 (omega (arith, few)))

  select_same : (hops : List Arc) → ((a : Arc) → Memᴰ a hops → is_first q a ≡ is_first (unlimited q) a) → select (is_first q) hops ≡ select (is_first (unlimited q)) hops
  unfolding select
  select_same [] h = refl
  select_same (a ∷ hops) h =
      ap (λ (b : Bool). keep_if b a (select (is_first q) hops)) (h a (Memᴰ.head refl))
      ∙ ap (keep_if (is_first (unlimited q) a) a) (select_same hops (λ b m. h b (Memᴰ.tail m)))

  -- where each link from S but to E is in service, the first hops are those of before
  hops_same : (hops : List Arc) → ((z c l : ℕ) → Memᴰ (arc q.near z c l) hops → (z ≡ q.far → ⊥) → c < under_maintenance) → first_hops q hops ≡ first_hops (unlimited q) hops
  unfolding first_hops
  hops_same hops small = ap (map hop_over) (select_same hops (λ a m. tests_same a (λ z c l e. small z c l (rw (← e) m))))

-- ---- what is found

module _ (ranks : List ℕ) (n : ℕ) (hops : List Arc) (d : ℕ → ℕ → ℕ) (q : Protected) (same : first_hops q hops ≡ first_hops (unlimited q) hops) where
  pairs_same : pairs q n hops ≡ pairs (unlimited q) n hops
  unfolding pairs pairs_of is_endpoint unlimited
  pairs_same = ap (λ (fs : List FirstHop). flat (map (pairs_of q n) fs)) same

  first_same : (to : Target) → first_pair ranks n hops d q to ≡ first_pair ranks n hops d (unlimited q) to
  unfolding first_pair serves pair_key told_of class_of base_class_of node_protects unlimited
  first_same to = ap (λ (ps : List _). choose (pair_key ranks n hops d q to) (select (serves n hops d q to) ps)) pairs_same

  outcome_same : (to : Target) (o : Option Pair) → outcome_of n hops d q to o ≡ outcome_of n hops d (unlimited q) to o
  unfolding outcome_of told_of class_of base_class_of node_protects unlimited
  outcome_same to none = refl
  outcome_same to (some p) = refl

  search_same : (to : Target) → outcome_of n hops d q to (first_pair ranks n hops d q to) ≡ outcome_of n hops d (unlimited q) to (first_pair ranks n hops d (unlimited q) to)
  search_same to = outcome_same to (first_pair ranks n hops d q to) ∙ ap (outcome_of n hops d (unlimited q) to) (first_same to)

  link_same : link_outcome ranks n hops d q ≡ link_outcome ranks n hops d (unlimited q)
  unfolding link_outcome unlimited
  link_same = search_same (router q.far)

  prefix_same : (to : Target) → prefix_outcome ranks n hops d q to ≡ prefix_outcome ranks n hops d (unlimited q) to
  unfolding prefix_outcome may_cross unlimited
  prefix_same to = ap (outcome (ltb (towards d to q.near) unreachable) (may_cross n hops d q to)) (search_same to)
    where
      outcome : Bool → Bool → Outcome → Outcome
      outcome a b o = elim a [ false ↦ prefix_unreachable | true ↦ elim b [ false ↦ prefix_untouched | true ↦ o ] ]

  extended_same : space_of extended_p n hops d q ≡ space_of extended_p n hops d (unlimited q)
  unfolding space_of in_space unlimited
  extended_same = ap (λ (fs : List FirstHop). set_of n (λ r. any_of (λ f. avoids n hops d (router r) q.number f.router) fs)) same

-- P and Q do not look at first hops
both_same : (n : ℕ) (hops : List Arc) (d : ℕ → ℕ → ℕ) (q : Protected) → (space_of p_space n hops d q ≡ space_of p_space n hops d (unlimited q)) × (space_of q_space n hops d q ≡ space_of q_space n hops d (unlimited q))
unfolding space_of in_space unlimited
both_same n hops d q = (refl, refl)

-- ---- what is answered, and what is left in the buffers

module _ (q : Question) (at : q.maintenance ≡ under_maintenance) where
  abbrev pub other : Question
  other = without_maintenance q

  -- no link from S but to E is under maintenance
  abbrev pub InService : Type 0
  InService = (f : FirstHop) → IsNeighbour q f → f.cost < under_maintenance

  pub asked_unlimited : link_asked other ≡ unlimited (link_asked q)
  unfolding link_asked network_asked protected without_maintenance
  asked_unlimited = seen_unlimited q.maintenance q.link q.end (get_or (network_asked q).links q.link (link 0 0 0 0))

  pub limit_asked : (link_asked q).maintenance ≡ under_maintenance
  unfolding link_asked protected protected_by
  limit_asked = go q.end (get_or (network_asked q).links q.link (link 0 0 0 0))
    where
      go : (e : ℕ) (k : Link) → (protected_by q.maintenance q.link e k).maintenance ≡ under_maintenance
      go zero (link a b ab ba) = at
      go (suc e) (link a b ab ba) = at

  same_hops : InService → first_hops (link_asked q) (Hops q) ≡ first_hops (unlimited (link_asked q)) (Hops q)
  same_hops small = hops_same (link_asked q) limit_asked (Hops q) (λ z c l m n. small (record { router = z; cost = c; over = l }) (m, n))

  link_found_same : InService → link_found q ≡ link_found other
  unfolding link_found with_distances network_asked without_maintenance
  link_found_same small = link_same _ _ _ _ (link_asked q) (same_hops small) ∙ sym (ap (link_outcome q.ranks (network_asked q).routers (Hops q) _) asked_unlimited)

  prefix_found_same : InService → prefix_found q ≡ prefix_found other
  unfolding prefix_found with_distances network_asked prefix_asked without_maintenance
  prefix_found_same small = prefix_same _ _ _ _ (link_asked q) (same_hops small) _ ∙ sym (ap (λ (r : Protected). prefix_outcome q.ranks (network_asked q).routers (Hops q) (D q) r (prefix_asked q)) asked_unlimited)

  -- what each call searches for and computes
  searched_same : (c : Call) → (LooksAtFirstHops c → InService) → searched q c ≡ searched other c
  unfolding searched
  searched_same load small = refl
  searched_same fill small = refl
  searched_same (space s) small = refl
  searched_same (link_repair from) small = ap some (link_found_same (small tt))
  searched_same (prefix_repair from) small = ap some (prefix_found_same (small tt))
  searched_same (route from) small = ap some (prefix_found_same (small tt))

  -- the route of a pair depends on S, not on the limit
  route_for_same : (o : Outcome) → route_for q o ≡ route_for other o
  unfolding route_for with_distances network_asked prefix_asked without_maintenance unlimited
  route_for_same prefix_unreachable = refl
  route_for_same prefix_untouched = refl
  route_for_same none_serves = refl
  route_for_same (serving t) = sym (ap (λ (r : Protected). route_of (network_asked q).routers (Hops q) (D q) (prefix_asked q) q.choices r.near t.first t.endpoint) asked_unlimited)

  route_same : InService → route_played q ≡ route_played other
  unfolding route_played
  route_same small = ap (route_for q) (prefix_found_same small) ∙ route_for_same (prefix_found other)

  computed_same : (c : Call) → (LooksAtFirstHops c → InService) → computed q c ≡ computed other c
  computed_same load small = unfold computed in refl
  computed_same fill small = unfold computed in refl
  computed_same (space s) small = unfold computed with_distances network_asked without_maintenance in ap set (go s small ∙ sym (ap (space_of s (network_asked q).routers (Hops q) (D q)) asked_unlimited))
    where
      go : (s : Space) → (LooksAtFirstHops (space s) → InService) → space_of s (network_asked q).routers (Hops q) (D q) (link_asked q) ≡ space_of s (network_asked q).routers (Hops q) (D q) (unlimited (link_asked q))
      go p_space small = (both_same _ _ _ _).0
      go extended_p small = extended_same q.ranks _ _ _ (link_asked q) (same_hops (small tt))
      go q_space small = (both_same _ _ _ _).1
  computed_same (link_repair from) small = unfold computed in ap repair_answer (link_found_same (small tt))
  computed_same (prefix_repair from) small = unfold computed in ap repair_answer (prefix_found_same (small tt))
  computed_same (route from) small = unfold computed in ap₂ route_answer (prefix_found_same (small tt)) (ap length (route_same (small tt)))

  -- the rows of the table: only row 14 looks at what is found
  returned_same : (LooksAtFirstHops q.call → InService) → (r : Row) → returned q r ≡ returned other r
  unfolding returned network_asked without_maintenance
  returned_same small (of_file r) = refl
  returned_same small (early r) = sym (early_numbers _ _ _ _ q q.call q.file q.choices 65536 r)
  returned_same small no_pair = ap (λ (o : Option Outcome). if_none o 0) (searched_same q.call small)

  refusal_same : (LooksAtFirstHops q.call → InService) → refusal_of q ≡ refusal_of other
  unfolding refusal_of rows_tried without_maintenance
  refusal_same small = same_decides (returned q) (returned other) (tries q.call) all_rows (λ r m t. returned_same small r)

  -- The answer and each buffer: the rows decide alike, what is computed is the same, and so is what is written.
  pub reply_same : (LooksAtFirstHops q.call → InService) → SameReply q other
  unfolding answer_to exit_of without_maintenance
  reply_same small = record {
    answer = ap₂ (λ (o : Option (Decided Row)) (a : Answer). elim o [ some r ↦ refusal r | none ↦ a ]) (refusal_same small) (computed_same q.call small);
    exit = λ x h before. ap₂ (λ (o : Option (Decided Row)) (w : List ℕ). exit_by o x before w) (refusal_same small) (written_same x h before);
  }
    where
      written_same : (x : Buffer) → HasInput q (lent x) → (before : List ℕ) → written_to q x before ≡ written_to other x before
      written_same work_area h before = unfold written_to network_asked without_maintenance in refl
      written_same route_buffer h before = unfold written_to in ap (λ (rs : List ℕ). rs ++ drop (length rs) before) (route_same (small (subst LooksAtFirstHops (sym (has_buffer q.call h).1) tt)))
