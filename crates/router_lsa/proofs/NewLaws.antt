-- Whether a router was named before: by the identifiers at hand, and by going over the LSAs after those.
-- Assumes nothing.
use Prim.Native.Nat.{ℕ, ◌+◌, ◌≤◌, ◌<◌, min}
use mathlib.Core.Path.{◌≡◌, refl, sym, ap, ◌∙◌}
use mathlib.Core.Bool.{Bool, true, false, not, false≢true}
use mathlib.Core.List.{List}
use native.Mathlib.Omega.{arith}
use native.Mathlib.Decide.{ℕ_discrete}
use lib.Dec.{eqb}
use lib.ListN.{get_or, length, set}
use lib.Seq.{get_or-set_same, get_or-set_other}
use borrow.Author.Tests.{eq-eqb, ne_eqb}
use Rattle.lfa.specs.File.{Bytes}
use Rattle.lfa.proofs.Laws.Test.{same_test, fails_make}
use Rattle.lfa.proofs.Laws.List.{every_gives, every_make}
use Rattle.metric.proofs.Laws.List.{every_fails}
use Rattle.ospf.specs.Lsa.{be32, router_field}
use Rattle.ospf.specs.Run.{begin_of, lsa_bytes}
use Rattle.ospf.specs.Run.{Passed}
use Rattle.ospf.proofs.Laws.Reading.{router_read}
use Rattle.router_lsa.specs.Scan.{new_router, new_among, AtHand}

-- ---- an LSA that has been passed, against a router

module _ (b : Bytes) (i j at router : ℕ) (passed : Passed b i) (h : j < i) (begins : at ≡ begin_of b j) where
  pub is_named : (id : ℕ) → id ≡ be32 b (at + 4) → id ≡ router → false ≡ new_router b i router
  unfolding new_router
  is_named id e q =
      sym (every_fails (λ j. not (eqb router (router_field (lsa_bytes b j)))) i j h
      (ap not (eq-eqb router (router_field (lsa_bytes b j)) (sym q ∙ router_read b i j at passed h begins id e))))

  pub not_named : (id : ℕ) → id ≡ be32 b (at + 4) → (id ≡ router → ⊥) → not (eqb router (router_field (lsa_bytes b j))) ≡ true
  not_named id e n = ap not (ne_eqb router (router_field (lsa_bytes b j)) (λ q. n (router_read b i j at passed h begins id e ∙ sym q)))

-- ---- the identifiers at hand

module _ (b : Bytes) (i router : ℕ) (ids : List ℕ) (start : ℕ) (hand : AtHand b i ids start) where
  -- they tell whether one of the first 64 LSAs is that of the router
  among_first : new_among ids (min i 64) router ≡ new_router b (min i 64) router
  unfolding new_among new_router
  among_first = same_test _ _
      (λ t. every_make _ (min i 64) (λ j h. rw (← hand.held j h) (every_gives _ (min i 64) t j h)))
      (λ t. every_make _ (min i 64) (λ j h. rw (hand.held j h) (every_gives _ (min i 64) t j h)))

  module _ (held : ℕ) (is : held ≡ min i 64) (r : Bool) (e : r ≡ new_among ids held router) where
    among_held : r ≡ new_router b (min i 64) router
    among_held = e ∙ ap (λ (n : ℕ). new_among ids n router) is ∙ among_first

    -- a router that is not among them: the search goes on after them
    pub later_ready : r ≡ true → (held ≤ i) × (start ≡ begin_of b held) × (new_router b held router ≡ true)
    later_ready t = (omega arith, hand.begins ∙ ap (begin_of b) (sym is), ap (λ (n : ℕ). new_router b n router) is ∙ sym among_held ∙ t)

    -- a router that is among them was named before
    pub named_first : r ≡ false → false ≡ new_router b i router
    unfolding new_router
    named_first f = sym (fails_make (new_router b i router) (λ t.
        false≢true (sym f ∙ among_held ∙ every_make _ (min i 64) (λ j h. every_gives _ i t j (omega arith)))))

-- ---- one LSA more

-- nothing is at hand at first
pub hand_none : (b : Bytes) (ids : List ℕ) → AtHand b 0 ids 0
unfolding begin_of
hand_none b ids = record { held = λ j h. absurd (omega arith); begins = refl }

module _ (b : Bytes) (i : ℕ) (ids : List ℕ) (start : ℕ) (hand : AtHand b i ids start) where
  -- the identifier of LSA i is put in its place, and the LSAs after it begin where it ends
  pub hand_more : (id next : ℕ) → i < 64 → i < length ids → id ≡ router_field (lsa_bytes b i) → next ≡ begin_of b (i + 1) → AtHand b (i + 1) (set ids i id) next
  hand_more id next h l e n =
      let m : min (i + 1) 64 ≡ i + 1 = omega arith in
      record { held = λ j k. go j (omega arith) (ℕ_discrete j i); begins = n ∙ ap (begin_of b) (sym m) }
    where
      go : (j : ℕ) → j < i + 1 → Dec (j ≡ i) → get_or (set ids i id) j 0 ≡ router_field (lsa_bytes b j)
      go j k (yes p) = rw p (get_or-set_same ids i id 0 l ∙ e)
      go j k (no p) = get_or-set_other ids i j id 0 p ∙ hand.held j (omega arith)

  -- after 64 LSAs nothing changes
  pub hand_full : 64 ≤ i → AtHand b (i + 1) ids start
  hand_full h =
      let m : min (i + 1) 64 ≡ min i 64 = omega arith in
      record { held = λ j k. hand.held j (omega arith); begins = hand.begins ∙ ap (begin_of b) (sym m) }
