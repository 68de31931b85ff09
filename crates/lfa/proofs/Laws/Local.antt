-- LeastCosts are determined by the arcs, and a table that passes a test at each arc holds them, whoever filled it.
-- Assumes nothing.
use Rattle.std.specs.Prelude.{ℕ, zero, suc, ◌+◌, ◌*◌, ◌≤◌, ◌<◌, ◌≡◌, refl, ◌⊎◌, true, false, ltb}
use Rattle.std.proofs.Common.{sym, inl, inr, arith, not-suc-le-zero, le_antisymm, ltb-true, ltb-false}
use mathlib.Core.List.{List, Memᴰ}
use Rattle.std.proofs.Math.Decide.{dec_lt}
use Rattle.lfa.proofs.Laws.Test.{decide}
use Rattle.lfa.specs.Network.{Arc, arc}
use Rattle.lfa.specs.Distance.{unreachable, RouterPath, stay, via, LeastCosts}
use Rattle.lfa.proofs.Laws.Hop.{route_cost}
use Rattle.lfa.specs.Sound.{Descends}

-- the laws of distances at each arc
pub record Local (hops : List Arc) (d : ℕ → ℕ → ℕ) : Type 0 where
  pub self : (x : ℕ) → d x x ≡ 0
  pub hop : {x z c l : ℕ} (t : ℕ) → Memᴰ (arc x z c l) hops → d x t ≤ c + d z t
  pub first : (x t : ℕ) → d x t < unreachable → (x ≡ t) ⊎ ((z : ℕ) × (c : ℕ) × (l : ℕ) × Memᴰ (arc x z c l) hops × (c + d z t ≡ d x t))
  pub most : (x t : ℕ) → d x t ≤ unreachable

module _ {height : ℕ → ℕ} (hops : List Arc) (d : ℕ → ℕ → ℕ) (local : Local hops d) (descends : Descends hops height) where
  local_least : {x t k : ℕ} → RouterPath hops x t k → d x t ≤ k
  local_least {x} stay = omega (arith, local.self x)
  local_least {t} (via m r) = omega (arith, local.hop t m, local_least r)

  local_path : (fuel x t : ℕ) → 2 * d x t + height x < fuel → d x t < unreachable → RouterPath hops x t (d x t)
  local_path zero x t h f = absurd (not-suc-le-zero h)
  local_path (suc fuel) x t h f = go (λ z. local_path fuel z t) (local.first x t f)
    where
      go : ((z : ℕ) → 2 * d z t + height z < fuel → d z t < unreachable → RouterPath hops z t (d z t)) → (x ≡ t) ⊎ ((z : ℕ) × (c : ℕ) × (l : ℕ) × Memᴰ (arc x z c l) hops × (c + d z t ≡ d x t)) → RouterPath hops x t (d x t)
      go rest (inl e) = rw e (route_cost (sym (local.self t)) stay)
      go rest (inr (z, c, l, m, e)) = route_cost e (via m (rest z (omega (arith, descends.hop m)) (omega arith)))

  -- A table that passes at each arc holds the least costs of paths. Slack at every arc bounds it by every path's cost; following tight
  -- arcs from a finite cell gives a path of its cost, and ends because twice the cell and the height fall at each arc. (Of two arcs that
  -- cost nothing and lead back and forth, each would be tight for any number in the cells of both.)
  pub local_distances : LeastCosts hops d
  local_distances = record { least = λ r. local_least r; path = λ x t f. local_path (suc (2 * d x t + height x)) x t (omega arith) f; most = local.most }

-- Least costs of paths pass at each arc: an arc before a path of least cost is a path, and a path of least cost starts with a tight arc.
pub distances_local : {hops : List Arc} {d : ℕ → ℕ → ℕ} → LeastCosts hops d → Local hops d
distances_local {hops} {d} least = record {
  self = λ x. omega (arith, least.least (stay {x = x}));
  hop = λ t m. hop t m;
  first = λ x t f. first (least.path x t f) refl;
  most = least.most;
}
  where
    hop : {x z c l : ℕ} (t : ℕ) → Memᴰ (arc x z c l) hops → d x t ≤ c + d z t
    hop {x} {z} {c} t m = go (dec_lt (d z t) unreachable)
      where
        go : Dec (d z t < unreachable) → d x t ≤ c + d z t
        go (yes f) = least.least (via m (least.path z t f))
        go (no f) = omega (arith, least.most x t)

    first : {x t k : ℕ} → RouterPath hops x t k → k ≡ d x t → (x ≡ t) ⊎ ((z : ℕ) × (c : ℕ) × (l : ℕ) × Memᴰ (arc x z c l) hops × (c + d z t ≡ d x t))
    first stay e = inl refl
    first (via {z = z} {t = t} {c = c} {l = l} m r) e = inr (z, c, l, m, omega (arith, hop t m, least.least r))

-- There is only one table of distances: each is at most the other, since a finite cell of one is the cost of a path, which bounds the
-- other.
pub distances_unique : (hops : List Arc) (d d' : ℕ → ℕ → ℕ) → LeastCosts hops d → LeastCosts hops d' → (x t : ℕ) → d x t ≡ d' x t
distances_unique hops d d' p q x t = le_antisymm (below d d' p q) (below d' d q p)
  where
    below : (d d' : ℕ → ℕ → ℕ) → LeastCosts hops d → LeastCosts hops d' → d x t ≤ d' x t
    below d d' p q = go (decide (ltb (d' x t) unreachable))
      where
        go : (ltb (d' x t) unreachable ≡ true) ⊎ (ltb (d' x t) unreachable ≡ false) → d x t ≤ d' x t
        go (inl e) = p.least (q.path x t (ltb-true (d' x t) unreachable e))
        go (inr e) = omega (arith, ltb-false, p.most x t)
