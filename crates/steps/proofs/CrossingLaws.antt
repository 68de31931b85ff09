-- The ends of the link, and the routers that are kept, router by router.
-- Assumes nothing.
use Prim.Native.Nat.{ℕ, ◌/◌, ◌^◌, ◌≤◌, ◌<◌}
use mathlib.Core.Path.{◌≡◌, ap, ap₂, ◌∙◌}
use mathlib.Core.Bool.{Bool, true, false, ◌&&◌}
use lib.Bits.{bit_and, bit_or}
use lib.Dec.{eqb, ltb, leb}
use borrow.Author.Tests.{ltb-true, leb-true, lt-ltb, le-ltb}
use Rattle.lfa.specs.Distance.{unreachable}
use Rattle.lfa.specs.Space.{Protected, set_of, has}
use Rattle.lfa.proofs.Laws.Test.{and_left, and_right, fails_left, fails_right}
use Rattle.metric.proofs.Laws.Set.{or_set_of, has_bit, has_no_bit}
use Rattle.steps.specs.Steps.{is_tight}
use Rattle.steps.specs.Crossing.{over_link, reaches_without, numbers_fit}

pub both_ends : {a b : ℕ} {p r : Bool} (q : Protected) (ends : ℕ) (target : ℕ → ℕ) → p ≡ is_tight ends target q.near q.far q.out → a ≡ set_of 64 (λ z. p && eqb q.near z) →
    r ≡ is_tight ends target q.far q.near q.back → b ≡ set_of 64 (λ z. r && eqb q.far z) → bit_or a b ≡ over_link q ends target
unfolding over_link
both_ends {a} {b} {p} {r} q ends target pe ae re be =
    ap₂ bit_or (ae ∙ ap (λ (t : Bool). set_of 64 (λ z. t && eqb q.near z)) pe) (be ∙ ap (λ (t : Bool). set_of 64 (λ z. t && eqb q.far z)) re)
    ∙ or_set_of 64 (λ z. is_tight ends target q.near q.far q.out && eqb q.near z) (λ z. is_tight ends target q.far q.near q.back && eqb q.far z)

-- numbers that fit are at most 64 routers and ends below 64
pub fit_gives : (n : ℕ) (q : Protected) → numbers_fit n q ≡ true → (n ≤ 64) × (q.near < 64) × (q.far < 64)
unfolding numbers_fit
fit_gives n q e =
    let ends = and_right (leb n 64) _ e in
    (leb-true _ _ (and_left _ _ e), ltb-true _ _ (and_left _ _ ends), ltb-true _ _ (and_right (ltb q.near 64) _ ends))

module _ (target : ℕ → ℕ) (set x : ℕ) where
  pub far_away : unreachable ≤ target x → reaches_without target set x ≡ false
  unfolding reaches_without
  far_away h = fails_left _ _ (le-ltb (target x) unreachable h)

  pub in_set : bit_and (set / 2 ^ x) 1 ≡ 1 → reaches_without target set x ≡ false
  unfolding reaches_without
  in_set e = let t : has set x ≡ true = has_bit set x e in fails_right (ltb (target x) unreachable) _ (rw t)

  pub kept : target x < unreachable → (bit_and (set / 2 ^ x) 1 ≡ 1 → ⊥) → reaches_without target set x ≡ true
  unfolding reaches_without
  kept f h = let t : has set x ≡ false = has_no_bit set x h in rw (t, lt-ltb (target x) unreachable f, reaches_without)
