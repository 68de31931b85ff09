-- The pair that is found by the numbers of an area is the one that document 01 puts first of those that serve, where the area holds the
-- distances of the network.
-- Assumes nothing.
use Prim.Native.Nat.{ℕ, ◌+◌, ◌*◌, ◌≤◌, ◌<◌, min}
use Rattle.std.specs.Prelude.{◌≡◌, true, false, ◌&&◌, eqb}
use Rattle.std.proofs.Math.Path.{refl, sym, ap, ap₂}
use Rattle.std.proofs.Common.{◌∙◌, arith, ltb-true}
use Rattle.std.proofs.Math.Bool.{Bool, not}
use Rattle.std.proofs.Math.Option.{none}
use mathlib.Core.List.{List, map, map-map, Memᴰ}
use Rattle.std.proofs.Math.Dec.{ltb}
use Rattle.std.specs.Int.Bits.{bit_and}
use Rattle.std.proofs.Math.ListN.{get_or}
use Rattle.lfa.specs.Lists.{below, select, flat}
use Rattle.lfa.specs.Network.{Arc, Target, router}
use Rattle.lfa.specs.Distance.{unreachable, towards}
use Rattle.lfa.specs.Walk.{avoids, visits}
use Rattle.lfa.specs.Space.{Protected, FirstHop, first_hops, extended_p, in_space, space_of, has, set_of}
use Rattle.lfa.specs.Repair.{Pair, is_endpoint, pairs_of, pairs, serves, node_protects, base_class_of, class_of, first_pair, Outcome, outcome_of, prefix_unreachable, prefix_untouched, may_cross, prefix_outcome}
use Rattle.lfa.proofs.Laws.Test.{and_left, and_right}
use Rattle.lfa.proofs.Laws.List.{any_make, below_mem, select_gives}
use Rattle.lfa.proofs.Laws.Set.{has_set_of, has_and}
use Rattle.lfa.proofs.Laws.Target.{towards_router}
use Rattle.lfa.proofs.Laws.Bound.{distance_small}
use Rattle.lfa.proofs.Laws.Visit.{misses, misses_reached}
use Rattle.lfa.proofs.Laws.Pair.{firsts_give}
use Rattle.metric.specs.Area.{held, cell_in}
use Rattle.metric.specs.Column.{column}
use Rattle.metric.proofs.Laws.Area.{cell_known}
use Rattle.metric.proofs.Laws.Column.{column_at}
use Rattle.metric.proofs.Laws.List.{select_same}
use Rattle.order.specs.declared.Ordered.{Ordered}
use Rattle.avoid.specs.Calls.{missing_from}
use Rattle.avoid.specs.Known.{Known}
use Rattle.avoid.specs.Laws.Known.{missing_from_lem}
use Rattle.steps.specs.declared.Onward.{Onward}
use Rattle.steps.specs.Crossing.{steps_over}
use Rattle.search.specs.Spaces.{avoided_from, space_for}
use Rattle.search.specs.Choice.{outcome_for, first_of, ordered_at, may_end, hop_pairs, protecting_from, pairs_over, pairs_tried, kept_of, first_serving}
use Rattle.search.specs.Calls.{pair_for, prefix_for}
use Rattle.metric.proofs.Laws.Select.{and_reorder, select_select, select_map, map_same, select_flat, map_flat}
use Rattle.search.proofs.Laws.First.{ordered_for, first_chosen}
use Rattle.search.proofs.Laws.Known.{near_in, far_in, hop_in_lem, avoided_known, space_known}

module _ (ranks : List ℕ) (n : ℕ) (hops : List Arc) (q : Protected) (area : List ℕ) (known : Known n hops q area) (target : Target) (l : List ℕ) (e : l ≡ column n (towards (held n area) target))
    (onward : Onward) (avoiding-is : onward.avoiding ≡ set_of n (avoids n hops (held n area) target q.number))
    (missing-is : (y : ℕ) → y < n → towards (held n area) target y < unreachable → has onward.missing y ≡ not (visits n hops (held n area) target q.far y)) where
  abbrev d : ℕ → ℕ → ℕ
  d = held n area

  -- the endpoints that are in extended P and avoid to the target
  abbrev kept : Onward
  kept = kept_of (space_for extended_p n hops q area) onward

  abbrev mask : ℕ
  mask = kept.avoiding

  module _ (f : FirstHop) (j : Memᴰ f (first_hops q hops)) where
    in_extended : (y : ℕ) → y < n → has (space_for extended_p n hops q area) y ≡ in_space extended_p n hops d q y
    unfolding space_of
    in_extended y k = ap (λ (s : ℕ). has s y) (space_known n hops q area known extended_p) ∙ has_set_of n (in_space extended_p n hops d q) y k

    first_extends : (y : ℕ) → avoids n hops d (router y) q.number f.router ≡ true → in_space extended_p n hops d q y ≡ true
    unfolding in_space
    first_extends y u = any_make (λ g. avoids n hops d (router y) q.number g.router) j u

    -- the pair of the first hop and an endpoint
    abbrev with_end : ℕ → Pair
    with_end y = record { hop = f; endpoint = y }

    -- an endpoint in the mask that the first hop avoids to is one that serves
    ends_serve : (y : ℕ) → y < n → may_end (bit_and mask (avoided_from n q area f.router)) q.near q.far y ≡ (is_endpoint q y && serves n hops d q target (with_end y))
    unfolding is_endpoint serves
    ends_serve y k =
        let x = in_space extended_p n hops d q y in
        let t = avoids n hops d target q.number y in
        let a = avoids n hops d (router y) q.number f.router in
        let in-mask : has mask y ≡ (x && t) =
        has_and (space_for extended_p n hops q area) onward.avoiding y
        ∙ ap₂ (λ (u v : Bool). u && v) (in_extended y k) (ap (λ (s : ℕ). has s y) avoiding-is ∙ has_set_of n (avoids n hops d target q.number) y k) in
        let in-ends : has (bit_and mask (avoided_from n q area f.router)) y ≡ ((x && t) && a) =
        has_and mask (avoided_from n q area f.router) y
        ∙ ap₂ (λ (u v : Bool). u && v) in-mask
        (ap (λ (s : ℕ). has s y) (avoided_known n hops q area known f.router (hop_in_lem n hops q area known f j)) ∙ has_set_of n (λ r. avoids n hops d (router r) q.number f.router) y k) in
        ap (λ (b : Bool). b && (not (eqb y q.near) && not (eqb y q.far))) in-ends
        ∙ and_reorder x t a (not (eqb y q.near) && not (eqb y q.far)) (first_extends y)

    same_to : (z : ℕ) → z < n → get_or l z 0 ≡ towards d target z
    same_to z k = rw e (column_at n (towards d target) z k)

    -- the endpoints that make its pairs node-protecting, of those that the legs reach: neither leg visits E
    abbrev protecting : ℕ
    protecting = protecting_from n q area onward.missing f

    protects : (y : ℕ) → y < n → towards d (router y) f.router < unreachable → towards d target y < unreachable → has protecting y ≡ node_protects n hops d q target (with_end y)
    unfolding node_protects
    protects y k u g =
        let tunnel : has (missing_from n q.far area f.router) y ≡ not (visits n hops d (router y) q.far f.router) =
        ap (λ (s : ℕ). has s y) (missing_from_lem n hops q area known q.far f.router (far_in n hops q area known) (hop_in_lem n hops q area known f j))
        ∙ has_set_of n (λ r. misses n hops d (router r) q.far f.router) y k ∙ misses_reached n hops d (router y) q.far f.router u in
        has_and (missing_from n q.far area f.router) onward.missing y ∙ ap₂ (λ (a b : Bool). a && b) tunnel (missing-is y k g)

    -- what is held of it is what the definitions say of the pair: D(n,y) is finite, so that the tunnel cost is no more than a real one
    pair_serves : (y : ℕ) → y < n → avoids n hops d (router y) q.number f.router ≡ true → towards d target y < unreachable → ordered_at ranks n area q.near l f protecting y ≡ ordered_for ranks n hops d q target (with_end y)
    unfolding ordered_at ordered_for class_of base_class_of avoids
    pair_serves y k t g =
        let m = f.router in
        let m-in = hop_in_lem n hops q area known f j in
        let u : towards d (router y) m < unreachable = search (ltb-true, and_left) in
        let v : towards d (router y) m ≡ d m y = towards_router d y m (known.costs.most m y) in
        let s : d m y ≤ 63 * 65535 = distance_small n hops d known.sound known.costs m y m-in (omega arith) in
        let w : min (f.cost + d m y) unreachable ≡ f.cost + d m y = omega (arith, known.sound.capped (firsts_give q hops f j).joined) in
        let near-y : cell_in n area q.near y ≡ d q.near y = cell_known n area q.near y (near_in n hops q area known) k known.sound.few known.long refl in
        let m-y : cell_in n area m y ≡ d m y = cell_known n area m y m-in k known.sound.few known.long refl in
        rw (near-y, m-y, w, same_to y k, same_to q.near (near_in n hops q area known), protects y k u g)

    reached : (y : ℕ) → avoids n hops d target q.number y ≡ true → towards d target y < unreachable
    unfolding avoids
    reached y t = search (ltb-true, and_left)

    hop_serves : pairs_over ranks n q area l kept f ≡ map (ordered_for ranks n hops d q target) (select (serves n hops d q target) (pairs_of q n f))
    unfolding pairs_over hop_pairs pairs_of serves
    hop_serves =
        let test : ℕ → Bool = λ y. is_endpoint q y && serves n hops d q target (with_end y) in
        ap (map (ordered_at ranks n area q.near l f protecting)) (select_same (may_end (bit_and mask (avoided_from n q area f.router)) q.near q.far) test (below n) (λ y k. ends_serve y (below_mem n y k)))
        ∙ map_same (ordered_at ranks n area q.near l f protecting) (λ y. ordered_for ranks n hops d q target (with_end y)) (select test (below n)) (λ y k. by y (select_gives test (below n) k))
        ∙ sym (map-map (ordered_for ranks n hops d q target) with_end (select test (below n)))
        ∙ ap (map (ordered_for ranks n hops d q target)) (sym (select_map (serves n hops d q target) with_end (select (is_endpoint q) (below n)) ∙ ap (map with_end) (select_select (λ y. serves n hops d q target (with_end y)) (is_endpoint q) (below n))))
      where
        by : (y : ℕ) → Memᴰ y (below n) × ((is_endpoint q y && serves n hops d q target (with_end y)) ≡ true) → ordered_at ranks n area q.near l f protecting y ≡ ordered_for ranks n hops d q target (with_end y)
        by y k = let both = and_right (is_endpoint q y) _ k.1 in pair_serves y (below_mem n y k.0) (and_left _ _ both) (reached y (and_right (avoids n hops d (router y) q.number f.router) _ both))

  -- The pairs that the search tries are the serving pairs, in the same order.
  tried : pairs_tried ranks n q area l kept (first_hops q hops) ≡ map (ordered_for ranks n hops d q target) (select (serves n hops d q target) (pairs q n hops))
  unfolding pairs_tried pairs
  tried =
      ap flat (map_same (pairs_over ranks n q area l kept) (λ f. map (ordered_for ranks n hops d q target) (select (serves n hops d q target) (pairs_of q n f))) (first_hops q hops) hop_serves)
      ∙ sym (ap (map (ordered_for ranks n hops d q target)) (select_flat (serves n hops d q target) (pairs_of q n) (first_hops q hops)) ∙ map_flat (ordered_for ranks n hops d q target) (λ f. select (serves n hops d q target) (pairs_of q n f)) (first_hops q hops))

  -- The first of them gives document 01's outcome.
  pub pair_known : pair_for ranks n hops q area l onward ≡ outcome_of n hops d q target (first_pair ranks n hops d q target)
  unfolding pair_for first_serving first_pair
  pair_known = ap (λ (os : List Ordered). outcome_for (first_of none os)) tried ∙ first_chosen ranks n hops d q target (select (serves n hops d q target) (pairs q n hops))

  -- Of a prefix, unreachable and untouched come first.
  pub prefix_known : (ends : ℕ) → steps_over q ends l ≡ may_cross n hops d q target → prefix_for ranks n hops q area ends l onward ≡ prefix_outcome ranks n hops d q target
  unfolding prefix_for prefix_outcome
  prefix_known ends crosses = same (ap (λ (v : ℕ). ltb v unreachable) near_held) crosses pair_known
    where
      near_held : get_or l q.near 0 ≡ towards d target q.near
      near_held = rw e (column_at n (towards d target) q.near (near_in n hops q area known))

      outcome : Bool → Bool → Outcome → Outcome
      outcome a b o = elim a [ false ↦ prefix_unreachable | true ↦ elim b [ false ↦ prefix_untouched | true ↦ o ] ]

      same : {a a' b b' : Bool} {o o' : Outcome} → a ≡ a' → b ≡ b' → o ≡ o' → outcome a b o ≡ outcome a' b' o'
      same e₁ e₂ e₃ = rw (e₁, e₂, e₃)
