-- D(x, target): the least over its attached routers, and no hop undercuts it.
-- Assumes nothing.
use Prim.Native.Nat.{ℕ, ◌+◌, ◌≤◌, ◌<◌, min}
use Rattle.std.specs.Prelude.{◌≡◌, ◌⊎◌, true, false, leb, ltb}
use Rattle.std.proofs.Math.Path.{refl, ap}
use Rattle.std.proofs.Common.{inl, inr, ltb-true, ltb-false, leb-true, leb-false}
use mathlib.Core.List.{List, [], ◌∷◌, Memᴰ}
use native.Mathlib.Omega.{arith}
use Rattle.lfa.proofs.Laws.Test.{decide}
use Rattle.lfa.specs.Network.{Arc, arc, at, Target, router}
use Rattle.lfa.specs.Distance.{unreachable, RouterPath, stay, via, LeastCosts, least, cost_over, towards}

module _ (d : ℕ → ℕ → ℕ) where
  pub towards_most : (to : Target) (x : ℕ) → towards d to x ≤ unreachable
  unfolding towards least cost_over
  towards_most [] x = omega arith
  towards_most (a ∷ to) x = omega (arith, towards_most to x)

  -- no more than over any attached router
  pub towards_least : {a c : ℕ} {to : Target} (x : ℕ) → Memᴰ (at a c) to → towards d to x ≤ d x a + c
  unfolding towards least cost_over
  towards_least x (Memᴰ.head e) = omega (arith, ap (cost_over (d x)) e)
  towards_least x (Memᴰ.tail m) = omega (arith, towards_least x m)

  -- a finite one is reached over some attached router
  pub towards_over : (to : Target) (x : ℕ) → towards d to x < unreachable → (a : ℕ) × (c : ℕ) × Memᴰ (at a c) to × (d x a + c ≡ towards d to x)
  unfolding towards least cost_over
  towards_over [] x f = absurd (omega arith)
  towards_over (at a c ∷ to) x f = go (towards_over to x) (decide (leb (d x a + c) (towards d to x)))
    where
      go : (towards d to x < unreachable → (a : ℕ) × (c : ℕ) × Memᴰ (at a c) to × (d x a + c ≡ towards d to x)) →
          (leb (d x a + c) (towards d to x) ≡ true) ⊎ (leb (d x a + c) (towards d to x) ≡ false) →
          (b : ℕ) × (k : ℕ) × Memᴰ (at b k) (at a c ∷ to) × (d x b + k ≡ min (d x a + c) (towards d to x))
      go below (inl e) = (a, c, Memᴰ.head refl, omega (arith, leb-true))
      go below (inr e) = let r = below (omega (arith, leb-false)) in (r.0, r.1, Memᴰ.tail r.2, omega (arith, r.3, leb-false))

  -- towards a router it is the distance to the router
  pub towards_router : (t x : ℕ) → d x t ≤ unreachable → towards d (router t) x ≡ d x t
  unfolding towards least cost_over router
  towards_router t x h = omega arith

module _ (hops : List Arc) (d : ℕ → ℕ → ℕ) (to : Target) (dist : LeastCosts hops d) where
  -- no hop undercuts it
  pub hop_bound : {x z c l : ℕ} → Memᴰ (arc x z c l) hops → towards d to x ≤ c + towards d to z
  hop_bound {x} {z} {c} m = go (decide (ltb (towards d to z) unreachable))
    where
      go : (ltb (towards d to z) unreachable ≡ true) ⊎ (ltb (towards d to z) unreachable ≡ false) → towards d to x ≤ c + towards d to z
      go (inl e) =
          let r = towards_over d to z (ltb-true _ _ e) in
          omega (arith, r.3, towards_least d x r.2, dist.least (via m (dist.path z r.0 (omega (arith, r.3, ltb-true)))))
      go (inr e) = omega (arith, ltb-false, towards_most d to x)

  -- along a path the distance to a target falls by no more than the path's cost
  pub route_bound : {x u k : ℕ} → RouterPath hops x u k → towards d to x ≤ k + towards d to u
  route_bound stay = omega arith
  route_bound (via m r) = omega (arith, hop_bound m, route_bound r)
