-- What elimination and substitution leave are the distances: no path is shorter than a cell, and no cell is below the least cost of a path.
-- Assumes nothing.
use Prim.Native.Nat.{ℕ, ◌+◌, ◌*◌, ◌≤◌, ◌<◌, min}
use mathlib.Core.Path.{◌≡◌, ap, ◌∙◌}
use mathlib.Core.Logic.{◌⊎◌, inl, inr}
use mathlib.Core.List.Memᴰ
use mathlib.Core.List.{List, ◌++◌, map, Memᴰ}
use native.Mathlib.Omega.{arith}
use native.Mathlib.Decide.{dec_lt}
use lib.Arith.{digits_lt}
use lib.ListN.{length, get_or}
use borrow.Author.Tests.{lt-ltb, le-ltb}
use Rattle.lfa.specs.Network.{Arc, arc}
use Rattle.lfa.specs.Distance.{unreachable, RouterPath, stay, via, LeastCosts, least, hop_cost}
use Rattle.lfa.specs.Sound.{Within}
use Rattle.lfa.proofs.Laws.List.{mem_below, map_make}
use Rattle.lfa.proofs.Laws.Counting.{map_below_gives}
use Rattle.lfa.proofs.Laws.Hop.{route_append, hop_least, hop_found}
use Rattle.metric.specs.Area.{area_cell}
use Rattle.distance.specs.Cells.{limit, Cells, Limited, Stored, cheapest, self_loops, CostsCapped, Triangular, Above, Eliminated, Substituted, finished}
use Rattle.distance.proofs.BoundLaws.{finite_small}

-- the cells are lowered to the costs of arcs, then come elimination and substitution
module _ {n : ℕ} {hops : List Arc} (within : Within hops n) {start middle final : List ℕ} (costs : Cells n (cheapest (self_loops n ++ hops)) start)
    (eliminated : Eliminated n 0 start middle) (substituted : Substituted n n middle final) where
  -- no arc is shorter than a cell
  arc_above : {x z c l : ℕ} → Memᴰ (arc x z c l) (self_loops n ++ hops) → x < n → z < n → area_cell n middle x z ≤ c
  unfolding cheapest
  arc_above {x} {z} m hx hz = omega (arith, eliminated.fallen.lower x z hx hz, costs.cell x z hx hz, hop_least x z m)

  loop_above : (x : ℕ) → x < n → area_cell n middle x x ≤ 0
  unfolding self_loops
  loop_above x hx = arc_above (Memᴰ.append_left hops (map_make (λ r. arc r r 0 0) (mem_below n x hx))) hx hx

  -- No path is shorter than a cell, and no way from i to the path's first router z, as elimination left it, and along the path is. Hop by
  -- hop from the path's end: the path's next router y is no farther than the arc. If z comes after i, the detour over z to y is no shorter
  -- (elimination), and the rest is known of y; if z comes before i, row i was lowered by row z (substitution).
  path_above : {z t c : ℕ} → RouterPath hops z t c → z < n → t < n → (area_cell n final z t ≤ c) × ((i : ℕ) → i < n → area_cell n final i t ≤ area_cell n middle i z + c)
  path_above {z} {t} stay hz ht = (
    omega (arith, substituted.fallen.lower t t ht ht, loop_above t ht),
    λ i hi. omega (arith, substituted.fallen.lower i t hi ht),
  )
  path_above {z} {t} (via {z = y} {c = a} {k = k} m r) hz ht = go (path_above r (within.to m) ht)
    where
      hop : area_cell n middle z y ≤ a
      hop = arc_above (Memᴰ.append_right (self_loops n) m) hz (within.to m)

      go : (area_cell n final y t ≤ k) × ((i : ℕ) → i < n → area_cell n final i t ≤ area_cell n middle i y + k) →
          (area_cell n final z t ≤ a + k) × ((i : ℕ) → i < n → area_cell n final i t ≤ area_cell n middle i z + (a + k))
      go (p, q) = (here, λ i hi. from i hi (dec_lt i z) (dec_lt z i))
        where
          here : area_cell n final z t ≤ a + k
          here = omega (arith, q z hz, hop)

          from : (i : ℕ) → i < n → Dec (i < z) → Dec (z < i) → area_cell n final i t ≤ area_cell n middle i z + (a + k)
          from i hi (yes l) _ = omega (arith, eliminated.over i z y l (omega arith) hz (within.to m), q i hi, hop)
          from i hi (no l) (yes g) = omega (arith, substituted.over i z t g hz hi ht, here)
          from i hi (no l) (no g) = let e : i ≡ z = omega arith in rw e (omega (arith, here))

  module _ {d : ℕ → ℕ → ℕ} (dist : LeastCosts hops d) where
    -- the distances, up to the limit
    capped : ℕ → ℕ → ℕ
    capped i j = min limit (d i j)

    detours : Triangular n capped
    unfolding capped
    detours = record { detour = λ i k j hi hk hj. go i k j (dec_lt (d i k) limit) (dec_lt (d k j) limit) }
      where
        go : (i k j : ℕ) → Dec (d i k < limit) → Dec (d k j < limit) → min limit (d i j) ≤ min limit (d i k) + min limit (d k j)
        go i k j (yes p) (yes q) = omega (arith, dist.least (route_append (dist.path i k (omega arith)) (dist.path k j (omega arith))))
        go i k j (yes p) (no q) = omega arith
        go i k j (no p) _ = omega arith

    below_arcs : Above n capped start
    unfolding capped cheapest self_loops
    below_arcs i j hi hj = rw (costs.cell i j hi hj) (go (dec_lt (least (map (hop_cost i j) (self_loops n ++ hops))) unreachable))
      where
        arc_below : (c l : ℕ) → Memᴰ (arc i j c l) (self_loops n) ⊎ Memᴰ (arc i j c l) hops → d i j ≤ c
        arc_below c l (inl m) =
            let s = map_below_gives (λ r. arc r r 0 0) n m in
            let e : i ≡ j = cc s.2 in
            rw (← e) (omega (arith, dist.least (stay {x = i})))
        arc_below c l (inr m) = omega (arith, dist.least (via m stay))

        go : Dec (least (map (hop_cost i j) (self_loops n ++ hops)) < unreachable) → min limit (d i j) ≤ min limit (least (map (hop_cost i j) (self_loops n ++ hops)))
        go (yes f) = let r = hop_found i j (self_loops n ++ hops) f in omega (arith, r.3, arc_below r.0 r.1 (Memᴰ.append_cases (self_loops n) r.2))
        go (no f) = omega arith

    -- The cells are the distances, up to the limit. They are not below: over arcs and detours nothing is shorter than the distances, so
    -- that neither elimination nor substitution falls below them. They are not above: a finite distance is the cost of a path.
    pub cells_closed : Limited n final → Cells n (λ i j. min limit (d i j)) final
    unfolding capped
    cells_closed limited = record { long = limited.long; cell = λ i j hi hj. go i j hi hj (dec_lt (d i j) unreachable) }
      where
        above : Above n capped final
        above = substituted.fallen.kept capped detours (eliminated.fallen.kept capped detours below_arcs)

        go : (i j : ℕ) → i < n → j < n → Dec (d i j < unreachable) → area_cell n final i j ≡ min limit (d i j)
        go i j hi hj (yes f) = omega (arith, above i j hi hj, (path_above (dist.path i j f) hi hj).0, limited.small i j hi hj)
        go i j hi hj (no f) = omega (arith, above i j hi hj, limited.small i j hi hj)

-- ---- what the cells stand for

pub finished_small : (v : ℕ) → v < limit → finished v ≡ v
unfolding finished
finished_small v h = rw (lt-ltb v limit h, finished)

pub finished_large : (v : ℕ) → limit ≤ v → finished v ≡ unreachable
unfolding finished
finished_large v h = rw (le-ltb v limit h, finished)

-- A finite distance is below the limit.
pub cells_finished : {n : ℕ} {hops : List Arc} {d : ℕ → ℕ → ℕ} {xs ys : List ℕ} → n ≤ 64 → Within hops n → CostsCapped hops → LeastCosts hops d → Cells n (λ i j. min limit (d i j)) xs →
    Stored (length xs) (λ j. finished (get_or xs j 0)) xs ys → Cells n d ys
cells_finished {n} {hops} {d} few within costs dist cells stored = record {
  long = stored.long ∙ cells.long;
  cell = λ i j hi hj. stored.done (i * n + j) (omega (arith, digits_lt hi hj, cells.long)) ∙ ap finished (cells.cell i j hi hj) ∙ go i j hi (dec_lt (d i j) unreachable);
}
  where
    go : (i j : ℕ) → i < n → Dec (d i j < unreachable) → finished (min limit (d i j)) ≡ d i j
    go i j hi (yes f) =
        let s = finite_small hops n few within costs d dist i j hi f in
        let m : min limit (d i j) ≡ d i j = omega arith in
        rw m (finished_small (d i j) (omega arith))
    go i j hi (no f) =
        let m : min limit (d i j) ≡ limit = omega arith in
        rw m (finished_large limit (omega arith) ∙ omega (arith, dist.most i j))
