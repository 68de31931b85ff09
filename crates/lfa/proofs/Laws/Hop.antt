-- Paths of at most one hop: what the first stage of the distances holds, `direct`, is no more than the cost of any arc and, where it is
-- finite, the cost of a path.
-- Assumes nothing.
use Prim.Native.Nat.{ℕ, ◌+◌, ◌≤◌, ◌<◌, min}
use Rattle.std.specs.Prelude.{◌≡◌, refl, ◌⊎◌, Bool, true, false, ◌&&◌, eqb, leb}
use Rattle.std.proofs.Math.Path.{ap}
use Rattle.std.proofs.Common.{inl, inr, arith, zero-add, add_assoc, leb-true, leb-false, eqb-true, eq-eqb}
use mathlib.Core.List.{List, [], ◌∷◌, map, Memᴰ}
use Rattle.lfa.specs.Network.{Arc, arc}
use Rattle.lfa.specs.Distance.{unreachable, RouterPath, stay, via, least, hop_cost, direct}
use Rattle.lfa.proofs.Laws.Test.{and_left, and_right, decide}

-- ---- paths

-- two paths, one after the other
pub route_append : {hops : List Arc} {x y z k j : ℕ} → RouterPath hops x y k → RouterPath hops y z j → RouterPath hops x z (k + j)
route_append stay s = rw zero-add s
route_append (via m r) s = rw add_assoc (via m (route_append r s))

-- a path of the same cost, written otherwise
pub route_cost : {hops : List Arc} {x y k j : ℕ} → k ≡ j → RouterPath hops x y k → RouterPath hops x y j
route_cost e r = rw e at r

-- ---- one hop

pub least_most : (l : List ℕ) → least l ≤ unreachable
unfolding least
least_most [] = omega arith
least_most (x ∷ l) = omega (arith, least_most l)

hop_self : (x z c l : ℕ) → hop_cost x z (arc x z c l) ≡ c
unfolding hop_cost
hop_self x z c l = rw (eq-eqb x x refl, eq-eqb z z refl, hop_cost)

-- an arc costs something finite only if it leads from x to z
hop_given : (x z u v c l : ℕ) → hop_cost x z (arc u v c l) < unreachable → (u ≡ x) × (v ≡ z) × (c ≡ hop_cost x z (arc u v c l))
unfolding hop_cost
hop_given x z u v c l f = go (eqb u x && eqb v z) refl f
  where
    go : (b : Bool) → (eqb u x && eqb v z) ≡ b → elim b as (λ _. ℕ) [ true ↦ c | false ↦ unreachable ] < unreachable → (u ≡ x) × (v ≡ z) × (c ≡ elim b as (λ _. ℕ) [ true ↦ c | false ↦ unreachable ])
    go true e f = search (eqb-true, and_left, and_right)
    go false e f = omega arith

module _ (x z : ℕ) where
  -- The least cost is at most the cost of each hop from x to z, and where it is finite it is that of one: an arc that does not lead from
  -- x to z counts as unreachable.
  pub hop_least : {c l : ℕ} {hops : List Arc} → Memᴰ (arc x z c l) hops → least (map (hop_cost x z) hops) ≤ c
  unfolding least
  hop_least {c} {l} (Memᴰ.head e) = omega (arith, ap (hop_cost x z) e, hop_self x z c l)
  hop_least (Memᴰ.tail m) = omega (arith, hop_least m)

  pub hop_found : (hops : List Arc) → least (map (hop_cost x z) hops) < unreachable → (c : ℕ) × (l : ℕ) × Memᴰ (arc x z c l) hops × (c ≡ least (map (hop_cost x z) hops))
  unfolding least
  hop_found [] f = absurd (omega arith)
  hop_found (arc u v c l ∷ hops) f = go (hop_found hops) (decide (leb (hop_cost x z (arc u v c l)) (least (map (hop_cost x z) hops))))
    where
      rest : ℕ
      rest = least (map (hop_cost x z) hops)

      go : (rest < unreachable → (c : ℕ) × (l : ℕ) × Memᴰ (arc x z c l) hops × (c ≡ rest)) →
          (leb (hop_cost x z (arc u v c l)) rest ≡ true) ⊎ (leb (hop_cost x z (arc u v c l)) rest ≡ false) →
          (c₁ : ℕ) × (l₁ : ℕ) × Memᴰ (arc x z c₁ l₁) (arc u v c l ∷ hops) × (c₁ ≡ min (hop_cost x z (arc u v c l)) rest)
      go below (inl e) =
          let g = hop_given x z u v c l (omega (arith, leb-true)) in
          (c, l, Memᴰ.head {x = arc u v c l} (rw (g.0, g.1)), omega (arith, g.2, leb-true))
      go below (inr e) =
          let r = below (omega (arith, leb-false)) in
          (r.0, r.1, Memᴰ.tail r.2, omega (arith, r.3, leb-false))

-- ---- at most one hop

-- No more than the cost of any arc from x to z; and, where it is finite, the cost of a path: one of no hop where x is z, and else one
-- of a single hop.
pub direct_least : {hops : List Arc} {x z c l : ℕ} → Memᴰ (arc x z c l) hops → direct hops x z ≤ c
unfolding direct
direct_least {hops} {x} {z} {c} m = go (eqb x z) (hop_least x z m)
  where
    go : (b : Bool) → least (map (hop_cost x z) hops) ≤ c → elim b as (λ _. ℕ) [ true ↦ 0 | false ↦ least (map (hop_cost x z) hops) ] ≤ c
    go true h = omega arith
    go false h = h

pub direct_most : (hops : List Arc) (x z : ℕ) → direct hops x z ≤ unreachable
unfolding direct
direct_most hops x z = go (eqb x z)
  where
    go : (b : Bool) → elim b as (λ _. ℕ) [ true ↦ 0 | false ↦ least (map (hop_cost x z) hops) ] ≤ unreachable
    go true = omega arith
    go false = least_most (map (hop_cost x z) hops)

pub direct_path : (hops : List Arc) (x z : ℕ) → direct hops x z < unreachable → RouterPath hops x z (direct hops x z)
unfolding direct
direct_path hops x z f = go (eqb x z) refl f
  where
    go : (b : Bool) → eqb x z ≡ b → elim b as (λ _. ℕ) [ true ↦ 0 | false ↦ least (map (hop_cost x z) hops) ] < unreachable →
        RouterPath hops x z (elim b as (λ _. ℕ) [ true ↦ 0 | false ↦ least (map (hop_cost x z) hops) ])
    go true e f = rw (eqb-true x z e) stay
    go false e f = let r = hop_found x z hops f in route_cost (omega (arith, r.3)) (via r.2 stay)
