-- Where steps lead: one router and one round more.
-- Assumes nothing.
use Prim.Native.Nat.{ℕ, zero, suc, ◌+◌, ◌-◌, ◌≤◌}
use mathlib.Core.Path.{◌≡◌, sym, ap, ◌∙◌}
use mathlib.Core.Bool.{Bool, true, false, not}
use mathlib.Core.List.{List}
use native.Mathlib.Omega.{arith}
use native.Mathlib.Numerals.{add-one}
use lib.Dec.{eqb}
use lib.ListN.{get_or}
use lib.Bits.{bit_and, bit_or}
use borrow.Author.Tests.{eq-eqb, ne_eqb}
use Rattle.lfa.specs.Space.{set_of}
use Rattle.steps.specs.Steps.{led_to, led_in}

-- some next router of x is in the set
unfoldable pub meets : (nexts : List ℕ) → (set x : ℕ) → Bool
meets nexts set x = not (eqb (bit_and (get_or nexts x 0) set) 0)

pub is_met : (nexts : List ℕ) (set x : ℕ) → (bit_and (get_or nexts x 0) set ≡ 0 → ⊥) → meets nexts set x ≡ true
unfolding meets
is_met nexts set x h = rw (ne_eqb (bit_and (get_or nexts x 0) set) 0 h, meets)

pub not_met : (nexts : List ℕ) (set x : ℕ) → bit_and (get_or nexts x 0) set ≡ 0 → meets nexts set x ≡ false
unfolding meets
not_met nexts set x e = rw (eq-eqb (bit_and (get_or nexts x 0) set) 0 e, meets)

pub led_all : {led x : ℕ} (nexts : List ℕ) (set : ℕ) → led ≡ set_of x (meets nexts set) → x ≡ 64 → led ≡ led_to nexts set
unfolding led_to meets
led_all nexts set e h = e ∙ ap (λ (n : ℕ). set_of n (meets nexts set)) h

module _ (nexts : List ℕ) (start : ℕ) where
  pub round : {set more : ℕ} (k : ℕ) → set ≡ led_in nexts start k → more ≡ led_to nexts set → bit_or start more ≡ led_in nexts start (k + 1)
  unfolding led_in
  round {set} {more} k e f = ap (bit_or start) (f ∙ ap (led_to nexts) e) ∙ ap (led_in nexts start) (sym (add-one k))

  -- A round that adds nothing is the last: every later one makes the same set.
  pub settled : {set : ℕ} (k j : ℕ) → set ≡ led_in nexts start k → set ≡ led_in nexts start (k + 1) → set ≡ led_in nexts start (k + j)
  unfolding led_in
  settled k zero e f = e ∙ ap (led_in nexts start) (let h : k ≡ k + 0 = omega arith in h)
  settled {set} k (suc j) e f =
      let h : k + suc j ≡ suc (k + j) = omega arith in
      f ∙ ap (led_in nexts start) (add-one k) ∙ ap (λ (s : ℕ). bit_or start (led_to nexts s)) (sym e ∙ settled k j e f) ∙ ap (led_in nexts start) (sym h)

  pub settled_at : {set : ℕ} (k most : ℕ) → k ≤ most → set ≡ led_in nexts start k → set ≡ led_in nexts start (k + 1) → set ≡ led_in nexts start most
  settled_at k most h e f = settled k (most - k) e f ∙ ap (led_in nexts start) (let g : k + (most - k) ≡ most = omega arith in g)
