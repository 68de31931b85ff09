-- The next routers, where the column holds the distances to a target: they are those of document 01's walks.
-- Assumes nothing.
use Rattle.std.specs.Prelude.{ℕ, ◌+◌, ◌^◌, ◌≤◌, ◌<◌, min, ◌≡◌, Bool, not, ◌&&◌}
use Rattle.std.proofs.Math.Path.{refl, ap, ap₂}
use Rattle.std.proofs.Common.{◌∙◌, arith}
use Rattle.std.proofs.Math.Bool.{true, false}
use mathlib.Core.List.{List, Memᴰ}
use Rattle.std.proofs.Math.Dec.{eqb, ltb}
use Rattle.std.proofs.Math.ListN.{get_or}
use borrow.Author.Tests.{ltb-true, eqb-true, eqb-false, eq-eqb}
use Rattle.lfa.specs.Lists.{any_of}
use Rattle.lfa.specs.Network.{Arc, arc, Target, is_attached}
use Rattle.lfa.specs.Distance.{unreachable, towards}
use Rattle.lfa.specs.Walk.{is_step}
use Rattle.lfa.specs.Space.{has, set_of}
use Rattle.lfa.specs.Route.{is_step_to}
use Rattle.lfa.proofs.Laws.Test.{and_left, and_right, and_make, same_test, fails_make}
use Rattle.lfa.proofs.Laws.Counting.{map_below_at}
use Rattle.lfa.proofs.Laws.Set.{set_of_lt, has_set_of}
use Rattle.lfa.specs.Sound.{Within}
use Rattle.lfa.proofs.Laws.Avoid.{step_leaves}
use Rattle.metric.specs.Column.{column}
use Rattle.metric.proofs.Laws.Column.{column_at}
use Rattle.metric.proofs.Laws.List.{any_same}
use Rattle.steps.specs.Steps.{is_tight, step_to, next_by, nexts_in}

-- a sum that is a finite distance is below the cap
pub capped : (s t : ℕ) → (eqb (min s unreachable) t && ltb t unreachable) ≡ (eqb s t && ltb t unreachable)
capped s t = same_test _ _ there back
  where
    there : (eqb (min s unreachable) t && ltb t unreachable) ≡ true → (eqb s t && ltb t unreachable) ≡ true
    there k =
        let f : t < unreachable = ltb-true t unreachable (and_right (eqb (min s unreachable) t) _ k) in
        let e : min s unreachable ≡ t = eqb-true (min s unreachable) t (and_left _ (ltb t unreachable) k) in
        let g : s ≡ t = omega arith in
        and_make (eqb s t) (ltb t unreachable) (eq-eqb s t g) (and_right (eqb (min s unreachable) t) _ k)

    back : (eqb s t && ltb t unreachable) ≡ true → (eqb (min s unreachable) t && ltb t unreachable) ≡ true
    back k =
        let f : t < unreachable = ltb-true t unreachable (and_right (eqb s t) _ k) in
        let e : s ≡ t = eqb-true s t (and_left _ (ltb t unreachable) k) in
        let g : min s unreachable ≡ t = omega arith in
        and_make (eqb (min s unreachable) t) (ltb t unreachable) (eq-eqb (min s unreachable) t g) (and_right (eqb s t) _ k)

-- the sets are those of the next routers of walks towards the target
pub record RightNexts (n : ℕ) (hops : List Arc) (d : ℕ → ℕ → ℕ) (to : Target) (nexts : List ℕ) : Type 0 where
  pub is_set : (x : ℕ) → x < n → get_or nexts x 0 < 2 ^ 64
  pub next : (x z : ℕ) → x < n → z < 64 → has (get_or nexts x 0) z ≡ any_of (is_step_to d to x z) hops

-- the set holds the routers, of those below n, at which every walk towards the target ends: the attached ones
pub record RightEnds (n : ℕ) (to : Target) (ends : ℕ) : Type 0 where
  pub at : (x : ℕ) → x < n → has ends x ≡ is_attached to x

-- Distances are read from a column and sums are capped: a finite distance is below the cap.
module _ (n : ℕ) (d : ℕ → ℕ → ℕ) (to : Target) (ends : ℕ) (right-ends : RightEnds n to ends) (held : List ℕ) (held_is : held ≡ column n (towards d to)) where
  pub at_router : (y : ℕ) → y < n → get_or held y 0 ≡ towards d to y
  at_router y k = rw held_is (column_at n (towards d to) y k)

  -- the test by numbers is the test of a step
  pub tight_step : (u v c l : ℕ) → u < n → v < n → is_tight ends (λ y. get_or held y 0) u v c ≡ is_step d to u (arc u v c l)
  unfolding is_tight is_step
  tight_step u v c l hu hv = rw (right-ends.at u hu, eq-eqb u u refl) (by (not (is_attached to u)))
    where
      by : (free : Bool) → (free && eqb (min (c + get_or held v 0) unreachable) (get_or held u 0) && ltb (get_or held u 0) unreachable)
          ≡ (free && eqb (c + towards d to v) (towards d to u) && ltb (towards d to u) unreachable)
      by true = capped (c + get_or held v 0) (get_or held u 0) ∙ ap₂ (λ (p q : ℕ). eqb (c + p) q && ltb q unreachable) (at_router v hv) (at_router u hu)
      by false = refl

module _ (n : ℕ) (few : n ≤ 64) (hops : List Arc) (within : Within hops n) (d : ℕ → ℕ → ℕ) (to : Target) (ends : ℕ) (right-ends : RightEnds n to ends)
    (held : List ℕ) (held_is : held ≡ column n (towards d to)) where
  abbrev h : ℕ → ℕ
  h y = get_or held y 0

  same_step : (x z : ℕ) (a : Arc) → Memᴰ a hops → step_to ends h x z a ≡ is_step_to d to x z a
  unfolding step_to is_step_to
  same_step x z (arc u v c l) m = by (eqb u x) refl
    where
      by : (b : Bool) → eqb u x ≡ b → (eqb u x && (is_tight ends h u v c && eqb v z)) ≡ (is_step d to x (arc u v c l) && eqb v z)
      by true e =
          let s : u ≡ x = eqb-true u x e in
          let at_x = tight_step n d to ends right-ends held held_is u v c l (within.from m) (within.to m) ∙ ap (λ (y : ℕ). is_step d to y (arc u v c l)) s in
          rw (e) (ap (λ (b : Bool). b && eqb v z) at_x)
      by false e =
          let off : is_step d to x (arc u v c l) ≡ false = fails_make _ (λ t. eqb-false u x e (step_leaves d to x u v c l t)) in
          rw (e, off)

  pub right_nexts : RightNexts n hops d to (nexts_in ends (λ y. get_or held y 0) hops)
  unfolding nexts_in next_by
  right_nexts = record {
    is_set = λ x i. rw (at x i) (set_of_lt 64 (next_by ends h hops x));
    next = λ x z i k. ap (λ (s : ℕ). has s z) (at x i) ∙ has_set_of 64 (next_by ends h hops x) z k ∙ any_same (step_to ends h x z) (is_step_to d to x z) hops (same_step x z);
  }
    where
      at : (x : ℕ) → x < n → get_or (nexts_in ends (λ y. get_or held y 0) hops) x 0 ≡ set_of 64 (next_by ends h hops x)
      at x i = map_below_at (λ x. set_of 64 (next_by ends h hops x)) 0 64 x (omega arith)
