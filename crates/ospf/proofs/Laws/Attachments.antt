-- The attachments that are computed from a run: each router that has a stub link of the prefix, at its least metric, in order.
-- Assumes nothing.
use Rattle.std.specs.Prelude.{ℕ, ◌≤◌, ◌<◌, min, ◌≡◌, refl, ◌⊎◌, true, false, ltb, get_or, length}
use Rattle.std.proofs.Common.{ap, inl, inr, arith, ltb-true, ltb-false}
use mathlib.Core.List.Memᴰ
use mathlib.Core.List.{List, [], ◌∷◌, map, Memᴰ}
use Rattle.lfa.specs.Lists.{below}
use Rattle.lfa.specs.Network.{Attachment, at, Target}
use Rattle.lfa.proofs.Laws.Test.{decide}
use Rattle.lfa.proofs.Laws.List.{flat_gives, flat_make, mem_below, below_mem}
use Rattle.ospf.specs.Order.{Ascending, none, first, Paired, next}
use Rattle.ospf.specs.Lsa.{Lsa}
use Rattle.ospf.specs.Run.{SoundRun}
use Rattle.ospf.specs.Means.{Name, AttachmentBefore, LeastStub, Attaches}
use Rattle.ospf.specs.Network.{stubs_of, least_of, attachment, attached}
use Rattle.ospf.proofs.Laws.Order.{flat_ascending}
use Rattle.ospf.proofs.Laws.Said.{stubs_gives, stubs_make}

-- ---- the least of some metrics

-- c is in the list and no larger than any in it
pub record LeastIn (c : ℕ) (l : List ℕ) : Type 0 where
  pub among : Memᴰ c l
  pub least : (m : ℕ) → Memᴰ m l → c ≤ m

pub least_in : (m : ℕ) (ms : List ℕ) → LeastIn (least_of m ms) (m ∷ ms)
unfolding least_of
least_in m [] = record { among = Memᴰ.head refl; least = λ k p. let e : k ≡ m = Memᴰ.eq_of_singleton p in omega arith }
least_in m (k ∷ ms) = go (least_in (min m k) ms)
  where
    smaller : (x : ℕ) → x ≡ min m k → (x ≡ m) ⊎ (x ≡ k)
    smaller x e = pick (decide (ltb m k))
      where
        pick : (ltb m k ≡ true) ⊎ (ltb m k ≡ false) → (x ≡ m) ⊎ (x ≡ k)
        pick (inl t) = inl (omega (arith, ltb-true m k t))
        pick (inr t) = inr (omega (arith, ltb-false m k t))

    placed : (x : ℕ) → (x ≡ m) ⊎ (x ≡ k) → Memᴰ x (m ∷ k ∷ ms)
    placed x (inl e) = Memᴰ.head e
    placed x (inr e) = Memᴰ.tail (Memᴰ.head e)

    there : (x : ℕ) → (x ≡ min m k) ⊎ Memᴰ x ms → Memᴰ x (m ∷ k ∷ ms)
    there x (inl e) = placed x (smaller x e)
    there x (inr p) = Memᴰ.tail (Memᴰ.tail p)

    under : LeastIn (least_of (min m k) ms) (min m k ∷ ms) → (x : ℕ) → (x ≡ m) ⊎ Memᴰ x (k ∷ ms) → least_of (min m k) ms ≤ x
    under h x (inl e) = omega (arith, h.least (min m k) (Memᴰ.head refl))
    under h x (inr p) = deeper (Memᴰ.cases_cons p)
      where
        deeper : (x ≡ k) ⊎ Memᴰ x ms → least_of (min m k) ms ≤ x
        deeper (inl e) = omega (arith, h.least (min m k) (Memᴰ.head refl))
        deeper (inr q) = h.least x (Memᴰ.tail q)

    go : LeastIn (least_of (min m k) ms) (min m k ∷ ms) → LeastIn (least_of (min m k) ms) (m ∷ k ∷ ms)
    go h = record { among = there _ (Memᴰ.cases_cons h.among); least = λ x p. under h x (Memᴰ.cases_cons p) }

-- ---- the attachments of a router

attachment_gives : (a u c : ℕ) (ms : List ℕ) → Memᴰ (at u c) (attachment a ms) → (u ≡ a) × LeastIn c ms
unfolding attachment
attachment_gives a u c [] m = absurd (Memᴰ.not-nil m)
attachment_gives a u c (k ∷ ms) m =
    let e : at u c ≡ at a (least_of k ms) = Memᴰ.eq_of_singleton m in
    let p : c ≡ least_of k ms = cc in
    (cc, rw p (least_in k ms))

attachment_make : (a c : ℕ) (ms : List ℕ) → LeastIn c ms → Memᴰ (at a c) (attachment a ms)
unfolding attachment
attachment_make a c [] h = absurd (Memᴰ.not-nil h.among)
attachment_make a c (k ∷ ms) h =
    let g = least_in k ms in
    let e : c ≡ least_of k ms = omega (arith, h.least (least_of k ms) g.among, g.least c h.among) in
    Memᴰ.head (ap (at a) e)

attachment_one : (a : ℕ) (ms : List ℕ) → Ascending AttachmentBefore (attachment a ms)
unfolding attachment
attachment_one a [] = none
attachment_one a (k ∷ ms) = first (λ y m. absurd (Memᴰ.not-nil m)) none

-- ---- the attachments of a prefix

module _ (run : List Lsa) (sound : SoundRun run) (ids : List ℕ) where
  least_stub : (x c : ℕ) (p : Name) → LeastIn c (stubs_of run x p) → LeastStub run x c p
  least_stub x c p h = record { some = stubs_gives run sound x c p h.among; least = λ m s. h.least m (stubs_make run sound s) }

  stub_least_lem : (x c : ℕ) (p : Name) → LeastStub run x c p → LeastIn c (stubs_of run x p)
  stub_least_lem x c p h = record { among = stubs_make run sound h.some; least = λ m q. h.least m (stubs_gives run sound x m p q) }

  module _ (p : Name) where
    abbrev of : ℕ → Target
    of a = attachment a (stubs_of run (get_or ids a 0) p)

    attached_gives : (u c : ℕ) → Memᴰ (at u c) (attached run ids p) → (u < length ids) × LeastStub run (get_or ids u 0) c p
    unfolding attached
    attached_gives u c m =
        let f = flat_gives of (below (length ids)) m in
        let g = attachment_gives f.0 u c (stubs_of run (get_or ids f.0 0) p) f.2 in
        rw g.0 (below_mem (length ids) f.0 f.1, least_stub (get_or ids f.0 0) c p g.1)

    attached_make : (u c : ℕ) → (u < length ids) × LeastStub run (get_or ids u 0) c p → Memᴰ (at u c) (attached run ids p)
    unfolding attached
    attached_make u c h = flat_make of (mem_below (length ids) u h.0) (attachment_make u c (stubs_of run (get_or ids u 0) p) (stub_least_lem (get_or ids u 0) c p h.1))

    of_router : (a : ℕ) (x : Attachment) → Memᴰ x (of a) → (c : ℕ) × (x ≡ at a c)
    of_router a (at u c) m = let g = attachment_gives a u c (stubs_of run (get_or ids a 0) p) m in (c, rw g.0)

    pub attaches : Attaches run ids p (attached run ids p)
    unfolding attached
    attaches = record {
      ascending = flat_ascending AttachmentBefore of (λ a. attachment_one a (stubs_of run (get_or ids a 0) p)) cross (length ids);
      just = λ u c. (attached_gives u c, attached_make u c);
    }
      where
        cross : (a b : ℕ) (x y : Attachment) → a < b → Memᴰ x (of a) → Memᴰ y (of b) → AttachmentBefore x y
        cross a b x y h m k = let q = of_router a x m in let r = of_router b y k in rw (q.1, r.1) h

  -- Each prefix is attached to just the routers with such a stub link, at their least metrics.
  pub each_attaches : (names : List Name) → Paired (Attaches run ids) names (map (attached run ids) names)
  each_attaches [] = Paired.none
  each_attaches (p ∷ names) = next (attaches p) (each_attaches names)
