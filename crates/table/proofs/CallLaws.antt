-- The answers of the public function, return by return: where the numbers fit, the test passes exactly where each cell is the distance.
-- Assumes nothing.
use Prim.Native.Nat.{ℕ, ◌*◌, ◌≤◌, ◌<◌}
use mathlib.Core.Path.{◌≡◌, sym, subst, ◌∙◌}
use mathlib.Core.Bool.{Bool, true, false}
use mathlib.Core.Logic.{inl, inr}
use mathlib.Core.List.{List, map, Memᴰ}
use native.Mathlib.Omega.{arith}
use lib.Dec.{ltb}
use lib.ListN.{length, get_or}
use borrow.Author.Tests.{ltb-true, lt-ltb}
use Rattle.lfa.specs.Lists.{below}
use Rattle.lfa.specs.Network.{Arc, arc, Link, link, Network, arcs}
use Rattle.lfa.specs.Distance.{LeastCosts, distances, distance_in, HoldsDistances, holds_distances}
use Rattle.lfa.proofs.Laws.Test.{and_left, and_right, fails_left, fails_right, same_test}
use Rattle.lfa.proofs.Laws.List.{every_gives, every_make}
use Rattle.lfa.proofs.Laws.Counting.{length_map_below, map_below_at}
use Rattle.lfa.specs.Sound.{Within, Descends, level, Sound}
use Rattle.lfa.proofs.Laws.Bound.{distance_small}
use Rattle.lfa.proofs.Laws.Distance.{distances_least}
use Rattle.lfa.proofs.Laws.Holds.{holds_gives, holds_make}
use Rattle.lfa.proofs.Laws.Network.{arcs_give, Direction}
use Rattle.metric.specs.Fit.{cells_fit, links_fit, ColumnsWithin}
use Rattle.metric.specs.Columns.{links_in, arcs_in, network_in}
use Rattle.metric.specs.RightTable.{RightTable}
use Rattle.metric.proofs.Laws.Area.{area_filled_lem}
use Rattle.metric.proofs.Laws.Columns.{columns_within}
use Rattle.metric.proofs.Laws.RightTable.{right_least, filled_right}
use Rattle.table.specs.Calls.{both_some, costs_fit, table_holds}
use Rattle.table.specs.Sums.{Small, Capped, Tested}

-- ---- the costs

-- The least cost of the first k links is 1 or more exactly where both costs of each are.
pub record LeastCost (k : ℕ) (out back : List ℕ) (least : ℕ) : Type 0 where
  pub holds : 0 < least → (j : ℕ) → j < k → both_some out back j ≡ true
  pub told : ((j : ℕ) → j < k → both_some out back j ≡ true) → 0 < least

module _ (links : ℕ) (out back : List ℕ) where
  pub costs_told : {least : ℕ} → LeastCost links out back least → ltb 0 least ≡ costs_fit links out back
  unfolding costs_fit
  costs_told {least} q =
      same_test _ _ (λ e. every_make (both_some out back) links (q.holds (ltb-true 0 least e))) (λ e. lt-ltb 0 least (q.told (every_gives (both_some out back) links e)))

  -- where they passed, each hop costs something
  pub costs_some : (from to : List ℕ) → costs_fit links out back ≡ true → {x z c l : ℕ} → Memᴰ (arc x z c l) (arcs_in from to out back links) → 0 < c
  unfolding costs_fit arcs_in links_in
  costs_some from to fits {x} {z} {c} m =
      let r = arcs_give 0 (map held (below links)) m in
      let h : r.0 < links = omega (arith, r.2, length_map_below held links) in
      some r.0 h (subst (λ (k : Link). Direction k x z c) (map_below_at held (link 0 0 0 0) links r.0 h) r.4)
    where
      held : ℕ → Link
      held k = link (get_or from k 0) (get_or to k 0) (get_or out k 0) (get_or back k 0)

      some : (k : ℕ) → k < links → Direction (held k) x z c → 0 < c
      some k h (inl e) = omega (arith, ltb-true 0 (get_or out k 0) (and_left _ _ (every_gives (both_some out back) links fits k h)), e)
      some k h (inr e) = omega (arith, ltb-true 0 (get_or back k 0) (and_right (ltb 0 (get_or out k 0)) _ (every_gives (both_some out back) links fits k h)), e)

-- ---- the test

-- The columns hold a network whose hops cost something. A right table then holds its distances (`right_least`); and a table that holds
-- them is the filled area, which is right (`filled_right`), and its finite cells are small (`distance_small`).
module _ {n links : ℕ} {from to : List ℕ} (w : ColumnsWithin n links from to) (out back : List ℕ) (fits : costs_fit links out back ≡ true) where
  net : Network
  net = network_in n links from to out back

  hops : List Arc
  hops = arcs_in from to out back links

  within : Within hops n
  unfolding hops
  within = columns_within from to out back links n w

  descends : Descends hops level
  unfolding hops
  descends = record { hop = λ m. omega (arith, costs_some links out back from to fits m) }

  least : LeastCosts hops (distance_in (distances net))
  unfolding net hops distances arcs arcs_in
  least = distances_least n hops within

  pub tested_answer : {table : List ℕ} {r : Bool} → n * n ≤ length table → Tested (arcs_in from to out back links) n table r →
      r ≡ holds_distances (network_in n links from to out back) table
  unfolding net hops arcs arcs_in
  tested_answer {table} {r} long q = same_test r (holds_distances net table) (λ e. holds_make net table (found (q.right e))) (λ e. let h = holds_gives net table e in q.passes (right h) (λ k. small h k))
    where
      found : RightTable hops n table → HoldsDistances net table
      found right = record { enough = long; each = λ x t hx ht. right_least hops n table within right descends (distance_in (distances net)) least x t hx ht }

      right : HoldsDistances net table → RightTable hops n table
      right h = rw (area_filled_lem net table long h.each) (filled_right net within table)

      sound : Capped hops → Sound n hops
      sound k = record { few = w.few_routers; within = within; height = level; descends = descends; capped = λ m. k.most m }

      small : HoldsDistances net table → Capped hops → Small n table
      small h k x t hx ht f = let e = h.each x t hx ht in omega (arith, distance_small n hops (distance_in (distances net)) (sound k) least x t hx (omega arith))

-- ---- the returns

module _ (n links : ℕ) (from to out back table : List ℕ) where
  pub cells_refused : cells_fit n (length table) ≡ false → false ≡ table_holds n links from to out back table
  unfolding table_holds
  cells_refused e = sym (fails_left _ _ e)

  pub links_refused : links_fit n links from to ≡ false → false ≡ table_holds n links from to out back table
  unfolding table_holds
  links_refused e = sym (fails_right (cells_fit n (length table)) _ (fails_left _ _ e))

  pub costs_refused : costs_fit links out back ≡ false → false ≡ table_holds n links from to out back table
  unfolding table_holds
  costs_refused e = sym (fails_right (cells_fit n (length table)) _ (fails_right (links_fit n links from to) _ (fails_left _ _ e)))

  pub answered : {r : Bool} → cells_fit n (length table) ≡ true → links_fit n links from to ≡ true → costs_fit links out back ≡ true →
      r ≡ holds_distances (network_in n links from to out back) table → r ≡ table_holds n links from to out back table
  unfolding table_holds
  answered a b c e = e ∙ rw (a, b, c, table_holds)
