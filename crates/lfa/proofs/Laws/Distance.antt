-- The computed distances are the least costs of paths: laws of each stage of their computation, and of the last.
-- Assumes nothing.
use Prim.Native.Nat.{ℕ, zero, suc, ◌+◌, ◌≤◌, ◌<◌, min}
use Rattle.std.specs.Prelude.{◌≡◌, ◌⊎◌, true, false, eqb, ltb, leb}
use Rattle.std.proofs.Math.Path.{refl}
use Rattle.std.proofs.Common.{sym, inl, inr, arith, not-suc-le-zero, le_of_suc-le-suc, eq-or-lt_of_le, ltb-true, ltb-false, leb-true, leb-false, eqb-true, eq-eqb}
use mathlib.Core.List.{List, Memᴰ}
use Rattle.lfa.specs.Lists.{cell}
use Rattle.lfa.specs.Network.{Arc, arc}
use Rattle.lfa.specs.Distance.{unreachable, RouterPath, stay, via, LeastCosts, direct, through, stage, distance_in}
use Rattle.lfa.proofs.Laws.Test.{decide}
use Rattle.lfa.proofs.Laws.Table.{cell_in_lem, cell_out}
use Rattle.lfa.specs.Sound.{Within}
use Rattle.lfa.proofs.Laws.Hop.{route_append, route_cost, direct_least, direct_most, direct_path}

-- ---- the stages

module _ (n : ℕ) (hops : List Arc) (within : Within hops n) where
  -- D(i,j) at stage k
  at_stage : ℕ → ℕ → ℕ → ℕ
  at_stage k i j = cell unreachable (stage n hops k) i j

  -- a cell of the next stage
  stage_next : (k i j : ℕ) → i < n → j < n → at_stage (suc k) i j ≡ min (at_stage k i j) (at_stage k i k + at_stage k k j)
  unfolding at_stage stage through
  stage_next k i j hi hj = cell_in_lem unreachable n _ i j hi hj

  stage_first : (i j : ℕ) → i < n → j < n → at_stage 0 i j ≡ direct hops i j
  unfolding at_stage stage
  stage_first i j hi hj = cell_in_lem unreachable n (direct hops) i j hi hj

  -- outside the table nothing is reachable
  stage_out : (k i j : ℕ) → (n ≤ i) ⊎ (n ≤ j) → at_stage k i j ≡ unreachable
  unfolding at_stage stage through
  stage_out zero i j o = cell_out unreachable n _ i j o
  stage_out (suc k) i j o = cell_out unreachable n _ i j o

  -- no stage holds more than the cost of an arc
  stage_arc : (k : ℕ) {x z c l : ℕ} → Memᴰ (arc x z c l) hops → at_stage k x z ≤ c
  stage_arc zero {x} {z} m = rw (stage_first x z (within.from m) (within.to m)) (direct_least m)
  stage_arc (suc k) {x} {z} m = rw (stage_next k x z (within.from m) (within.to m)) (omega (arith, stage_arc k m))

  stage_most : (k i j : ℕ) → i < n → j < n → at_stage k i j ≤ unreachable
  stage_most zero i j hi hj = rw (stage_first i j hi hj) (direct_most hops i j)
  stage_most (suc k) i j hi hj = rw (stage_next k i j hi hj) (omega (arith, stage_most k i j hi hj))

  -- Where a stage is finite there is a path of that cost: it takes the cell of the stage before, or joins two paths of that stage at
  -- router k.
  stage_path : (k i j : ℕ) → i < n → j < n → k ≤ n → at_stage k i j < unreachable → RouterPath hops i j (at_stage k i j)
  stage_path zero i j hi hj hk f = rw (stage_first i j hi hj) (direct_path hops i j (rw (stage_first i j hi hj) at f))
  stage_path (suc k) i j hi hj hk f = go (λ a b ha hb. stage_path k a b ha hb (omega arith)) (decide (leb (at_stage k i j) (at_stage k i k + at_stage k k j)))
    where
      e : at_stage (suc k) i j ≡ min (at_stage k i j) (at_stage k i k + at_stage k k j)
      e = stage_next k i j hi hj

      go : ((a b : ℕ) → a < n → b < n → at_stage k a b < unreachable → RouterPath hops a b (at_stage k a b)) →
          (leb (at_stage k i j) (at_stage k i k + at_stage k k j) ≡ true) ⊎ (leb (at_stage k i j) (at_stage k i k + at_stage k k j) ≡ false) → RouterPath hops i j (at_stage (suc k) i j)
      go below (inl t) = route_cost (omega (arith, leb-true, e)) (below i j hi hj (omega (arith, leb-true, e)))
      go below (inr t) =
          route_cost (omega (arith, leb-false, e))
          (route_append (below i k hi (omega arith) (omega (arith, leb-false, e))) (below k j (omega arith) hj (omega (arith, leb-false, e))))

  -- Stage k has found what passing through a router below k saves. For the router added last the stage takes this sum itself; for an
  -- earlier one the three cells may each pass through router k, and the sums of the stage before bound every case.
  stage_triangle : (k i m j : ℕ) → i < n → j < n → m < k → k ≤ n → at_stage k i j ≤ at_stage k i m + at_stage k m j
  stage_triangle zero i m j hi hj hm hk = absurd (not-suc-le-zero hm)
  stage_triangle (suc k) i m j hi hj hm hk = go (λ (h : m < k) a b ha hb. stage_triangle k a m b ha hb h (omega arith)) (eq-or-lt_of_le (le_of_suc-le-suc hm))
    where
      go : (m < k → (a b : ℕ) → a < n → b < n → at_stage k a b ≤ at_stage k a m + at_stage k m b) → (m ≡ k) ⊎ (m < k) → at_stage (suc k) i j ≤ at_stage (suc k) i m + at_stage (suc k) m j
      go below (inl c) = rw c (omega (arith, stage_next k i j hi hj, stage_next k i k hi (omega arith), stage_next k k j (omega arith) hj))
      go below (inr c) =
          omega (
            arith,
            stage_next k i j hi hj,
            stage_next k i m hi (omega arith),
            stage_next k m j (omega arith) hj,
            below c i j hi hj,
            below c i k hi (omega arith),
            below c k j (omega arith) hj,
          )

  -- ---- the whole

  found : ℕ → ℕ → ℕ
  found = distance_in (stage n hops n)

  found_self : (x : ℕ) → found x x ≡ 0
  unfolding found distance_in
  found_self x = rw (eq-eqb x x refl, distance_in)

  found_other : (x t : ℕ) → eqb x t ≡ false → found x t ≡ at_stage n x t
  unfolding found distance_in at_stage
  found_other x t e = rw (e, distance_in)

  -- any two routers, by whether they are one
  found_cases : (x t : ℕ) → (x ≡ t) ⊎ (found x t ≡ at_stage n x t)
  found_cases x t = go (decide (eqb x t))
    where
      go : (eqb x t ≡ true) ⊎ (eqb x t ≡ false) → (x ≡ t) ⊎ (found x t ≡ at_stage n x t)
      go (inl e) = inl (eqb-true x t e)
      go (inr e) = inr (found_other x t e)

  range_cases : (t : ℕ) → (t < n) ⊎ (n ≤ t)
  range_cases t = go (decide (ltb t n))
    where
      go : (ltb t n ≡ true) ⊎ (ltb t n ≡ false) → (t < n) ⊎ (n ≤ t)
      go (inl e) = inl (ltb-true t n e)
      go (inr e) = inr (ltb-false t n e)

  found_most : (x t : ℕ) → found x t ≤ unreachable
  found_most x t = go (found_cases x t) (range_cases x) (range_cases t)
    where
      go : (x ≡ t) ⊎ (found x t ≡ at_stage n x t) → (x < n) ⊎ (n ≤ x) → (t < n) ⊎ (n ≤ t) → found x t ≤ unreachable
      go (inl e) _ _ = rw e (omega (arith, found_self t))
      go (inr e) (inl hx) (inl ht) = omega (arith, stage_most n x t hx ht)
      go (inr e) (inl hx) (inr ht) = omega (arith, stage_out n x t (inr ht))
      go (inr e) (inr hx) _ = omega (arith, stage_out n x t (inl hx))

  found_path : (x t : ℕ) → found x t < unreachable → RouterPath hops x t (found x t)
  found_path x t f = go (found_cases x t) (range_cases x) (range_cases t)
    where
      go : (x ≡ t) ⊎ (found x t ≡ at_stage n x t) → (x < n) ⊎ (n ≤ x) → (t < n) ⊎ (n ≤ t) → RouterPath hops x t (found x t)
      go (inl e) _ _ = rw e (route_cost (sym (found_self t)) stay)
      go (inr e) (inl hx) (inl ht) = route_cost (sym e) (stage_path n x t hx ht (omega arith) (omega arith))
      go (inr e) (inl hx) (inr ht) = absurd (omega (arith, stage_out n x t (inr ht)))
      go (inr e) (inr hx) _ = absurd (omega (arith, stage_out n x t (inl hx)))

  found_hop : {x z c l : ℕ} (t : ℕ) → Memᴰ (arc x z c l) hops → found x t ≤ c + found z t
  found_hop {x} {z} {c} {l} t m = go (found_cases x t) (found_cases z t) (range_cases t)
    where
      go : (x ≡ t) ⊎ (found x t ≡ at_stage n x t) → (z ≡ t) ⊎ (found z t ≡ at_stage n z t) → (t < n) ⊎ (n ≤ t) → found x t ≤ c + found z t
      go (inl e) _ _ = rw e (omega (arith, found_self t))
      go (inr e) (inl e') _ = omega (arith, rw e' at (stage_arc n m))
      go (inr e) (inr e') (inl ht) = omega (arith, stage_triangle n x z t (within.from m) ht (within.to m) (omega arith), stage_arc n m)
      go (inr e) (inr e') (inr ht) = omega (arith, stage_out n x t (inr ht), stage_out n z t (inr ht))

  found_least : {x t k : ℕ} → RouterPath hops x t k → found x t ≤ k
  found_least {x} stay = omega (arith, found_self x)
  found_least {t} (via m r) = omega (arith, found_hop t m, found_least r)

  -- The computed distances are the least costs of paths. No path is cheaper: hop by hop, the last stage holds no more than the cost of
  -- a hop plus what it holds from there (`found_hop`, by the triangle of passing through the hop's router). Each finite one is the cost
  -- of a path: a stage takes the old cell or joins two paths at router k.
  pub distances_least : LeastCosts hops (distance_in (stage n hops n))
  unfolding found
  distances_least = record { least = λ r. found_least r; path = found_path; most = found_most }
