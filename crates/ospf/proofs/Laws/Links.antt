-- The links that are computed from a run: one exactly where both LSAs describe each other, in order.
-- Assumes nothing.
use Prim.Native.Nat.{ℕ, suc, ◌+◌, ◌-◌, ◌<◌}
use Rattle.std.specs.Prelude.{◌≡◌, refl, ◌⊎◌, get_or, length}
use Rattle.std.proofs.Common.{inl, inr}
use mathlib.Core.List.Memᴰ
use mathlib.Core.List.{List, [], ◌∷◌, map, Memᴰ}
use native.Mathlib.Omega.{arith}
use Rattle.lfa.specs.Lists.{below, flat}
use Rattle.lfa.specs.Network.{Link, link}
use Rattle.lfa.proofs.Laws.List.{flat_gives, flat_make, mem_below, below_mem}
use Rattle.ospf.specs.Order.{Ascending, none, first}
use Rattle.ospf.specs.Lsa.{Lsa}
use Rattle.ospf.specs.Run.{SoundRun}
use Rattle.ospf.specs.Means.{LinkBefore, Joins}
use Rattle.ospf.specs.Network.{towards, pair_up, joining, links_up}
use Rattle.ospf.proofs.Laws.Order.{flat_ascending}
use Rattle.ospf.proofs.Laws.Said.{AtMostOne, no_element, one_element, towards_most, towards_gives, towards_make}

-- ---- two lists of metrics, paired

pair_gives : (a b u v uv vu : ℕ) (outs backs : List ℕ) → Memᴰ (link u v uv vu) (pair_up a b outs backs) → (u ≡ a) × (v ≡ b) × Memᴰ uv outs × Memᴰ vu backs
unfolding pair_up
pair_gives a b u v uv vu [] backs m = absurd (Memᴰ.not-nil m)
pair_gives a b u v uv vu (x ∷ outs) [] m = absurd (Memᴰ.not-nil m)
pair_gives a b u v uv vu (x ∷ outs) (y ∷ backs) m = go (Memᴰ.cases_cons m) (pair_gives a b u v uv vu outs backs)
  where
    go : (link u v uv vu ≡ link a b x y) ⊎ Memᴰ (link u v uv vu) (pair_up a b outs backs) →
        (Memᴰ (link u v uv vu) (pair_up a b outs backs) → (u ≡ a) × (v ≡ b) × Memᴰ uv outs × Memᴰ vu backs) →
        (u ≡ a) × (v ≡ b) × Memᴰ uv (x ∷ outs) × Memᴰ vu (y ∷ backs)
    go (inl e) rest = let p : uv ≡ x = cc in let q : vu ≡ y = cc in (cc, cc, Memᴰ.head p, Memᴰ.head q)
    go (inr k) rest = let r = rest k in (r.0, r.1, Memᴰ.tail r.2, Memᴰ.tail r.3)

pair_make : (a b uv vu : ℕ) {outs backs : List ℕ} → AtMostOne outs → AtMostOne backs → Memᴰ uv outs → Memᴰ vu backs → Memᴰ (link a b uv vu) (pair_up a b outs backs)
unfolding pair_up
pair_make a b uv vu no_element q m k = absurd (Memᴰ.not-nil m)
pair_make a b uv vu (one_element {x}) no_element m k = absurd (Memᴰ.not-nil k)
pair_make a b uv vu (one_element {x}) (one_element {x = y}) m k =
    let p : uv ≡ x = Memᴰ.eq_of_singleton m in
    let q : vu ≡ y = Memᴰ.eq_of_singleton k in
    let e : link a b uv vu ≡ link a b x y = cc in
    Memᴰ.head e

pair_ascending : (a b : ℕ) {outs backs : List ℕ} → AtMostOne outs → AtMostOne backs → Ascending LinkBefore (pair_up a b outs backs)
unfolding pair_up
pair_ascending a b no_element q = none
pair_ascending a b one_element no_element = none
pair_ascending a b one_element one_element = first (λ y m. absurd (Memᴰ.not-nil m)) none

-- ---- the links of a run

module _ (run : List Lsa) (sound : SoundRun run) (ids : List ℕ) where
  abbrev id : ℕ → ℕ
  id a = get_or ids a 0

  joining_gives : (a b u v uv vu : ℕ) → Memᴰ (link u v uv vu) (joining run ids a b) → (u ≡ a) × (v ≡ b) × Memᴰ uv (towards run (id a) (id b)) × Memᴰ vu (towards run (id b) (id a))
  unfolding joining
  joining_gives a b u v uv vu m = pair_gives a b u v uv vu _ _ m

  up_gives : (a u v uv vu : ℕ) → Memᴰ (link u v uv vu) (links_up run ids a) →
      (u ≡ a) × (a < v) × (v < suc a + (length ids - suc a)) × Memᴰ uv (towards run (id a) (id v)) × Memᴰ vu (towards run (id v) (id a))
  unfolding links_up
  up_gives a u v uv vu m =
      let f = flat_gives (λ k. joining run ids a (suc a + k)) (below (length ids - suc a)) m in
      let j = joining_gives a (suc a + f.0) u v uv vu f.2 in
      let h = below_mem (length ids - suc a) f.0 f.1 in
      let e : v ≡ suc a + f.0 = j.1 in
      (j.0, omega arith, omega arith, rw e j.2, rw e j.3)

  abbrev links_from : List Link
  links_from = flat (map (links_up run ids) (below (length ids)))

  -- A link is listed exactly where both sides describe each other.
  pub links_gives : (u v uv vu : ℕ) → Memᴰ (link u v uv vu) links_from → Joins run ids u v uv vu
  links_gives u v uv vu m =
      let f = flat_gives (links_up run ids) (below (length ids)) m in
      let a = f.0 in
      let h = below_mem (length ids) a f.1 in
      let g = up_gives a u v uv vu f.2 in
      rw g.0 (record {
        lower = g.1;
        higher = omega (arith, g.2);
        out = towards_gives run sound (id a) (id v) uv g.3;
        back = towards_gives run sound (id v) (id a) vu g.4;
      })

  pub links_make : (u v uv vu : ℕ) → Joins run ids u v uv vu → Memᴰ (link u v uv vu) links_from
  unfolding links_up joining
  links_make u v uv vu j =
      flat_make (links_up run ids) (mem_below (length ids) u (omega (arith, j.lower, j.higher)))
      (flat_make (λ k. joining run ids u (suc u + k)) (mem_below (length ids - suc u) (v - suc u) (omega (arith, j.lower, j.higher)))
      (rw (let e : suc u + (v - suc u) ≡ v = omega (arith, j.lower) in e)
      (pair_make u v uv vu (towards_most run sound (id u) (id v)) (towards_most run sound (id v) (id u))
      (towards_make run sound (id u) (id v) uv j.out) (towards_make run sound (id v) (id u) vu j.back))))

  up_first : (a : ℕ) (l : Link) (b : ℕ) → Memᴰ l (joining run ids a b) → (uv vu : ℕ) × (l ≡ link a b uv vu)
  up_first a (link u v uv vu) b m = let j = joining_gives a b u v uv vu m in (uv, vu, rw (j.0, j.1))

  up_ascending : (a : ℕ) → Ascending LinkBefore (links_up run ids a)
  unfolding links_up joining
  up_ascending a = flat_ascending LinkBefore (λ k. joining run ids a (suc a + k)) (λ k. each (suc a + k)) cross (length ids - suc a)
    where
      each : (b : ℕ) → Ascending LinkBefore (joining run ids a b)
      each b = pair_ascending a b (towards_most run sound (id a) (id b)) (towards_most run sound (id b) (id a))

      cross : (i j : ℕ) (x y : Link) → i < j → Memᴰ x (joining run ids a (suc a + i)) → Memᴰ y (joining run ids a (suc a + j)) → LinkBefore x y
      cross i j x y h m k = let p = up_first a x (suc a + i) m in let q = up_first a y (suc a + j) k in rw (p.2, q.2) (inr (refl, omega arith))

  up_router : (a : ℕ) (l : Link) → Memᴰ l (links_up run ids a) → (v uv vu : ℕ) × (l ≡ link a v uv vu)
  up_router a (link u v uv vu) m = let g = up_gives a u v uv vu m in (v, uv, vu, rw g.0)

  pub links_ascending : Ascending LinkBefore links_from
  links_ascending = flat_ascending LinkBefore (links_up run ids) up_ascending cross (length ids)
    where
      cross : (a c : ℕ) (x y : Link) → a < c → Memᴰ x (links_up run ids a) → Memᴰ y (links_up run ids c) → LinkBefore x y
      cross a c x y h m k = let p = up_router a x m in let q = up_router c y k in rw (p.3, q.3) (inl h)
