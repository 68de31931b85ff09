-- The lowest bit of a set: its router is a member, and the set without it holds the others.
-- Assumes nothing.
use Prim.Native.Nat.{ℕ, zero, suc, ◌+◌, ◌-◌, ◌*◌, ◌/◌, ◌%◌, ◌^◌, ◌<◌, min, max}
use mathlib.Core.Path.{◌≡◌, refl, sym, ap, ap₂, ◌∙◌}
use mathlib.Core.Logic.{◌⊎◌, inl, inr}
use mathlib.Core.Bool.{true, false≢true}
use native.Mathlib.Omega.{arith}
use native.Mathlib.Nat.{mul_assoc, mul-one, one-mul, add-mul, pow-suc, add-zero, mod-lt, zero-lt-suc}
use native.Mathlib.Decide.{ℕ_discrete}
use lib.Bits.{bit_and, bit_or, and_step, or_step, and_block, or_block, and_le_r, and_self, and_zero_l, or_zero_r}
use lib.Count.{count_trailing_zeros, under}
use lib.Pow.{pow_pos}
use Rattle.lfa.specs.Space.{has}
use Rattle.lfa.proofs.Laws.Test.{or_cases, or_left, or_right}
use Rattle.metric.proofs.Laws.Set.{has_or, has_self, has_other}

-- the zeros below the lowest bit, and an odd number above them
lowest : (k n : ℕ) → 0 < n → n < 2 ^ k → (count_trailing_zeros k n < k) × ((q : ℕ) × (n ≡ (2 * q + 1) * 2 ^ count_trailing_zeros k n))
unfolding count_trailing_zeros
lowest zero n some h = absurd (omega arith)
lowest (suc k) n some h = go (n % 2) refl (λ p l. lowest k (n / 2) p l)
  where
    T : ℕ
    T = count_trailing_zeros k (n / 2)

    go : (d : ℕ) → n % 2 ≡ d → (0 < n / 2 → n / 2 < 2 ^ k → (T < k) × ((q : ℕ) × (n / 2 ≡ (2 * q + 1) * 2 ^ T))) → (under d T < suc k) × ((q : ℕ) × (n ≡ (2 * q + 1) * 2 ^ under d T))
    go zero e ih =
        let r = ih (omega arith) (omega (arith, pow-suc 2 k)) in
        let q = r.1.0 in
        let twice : n ≡ n / 2 * 2 = omega arith in
        (omega (arith, r.0), (q, twice ∙ ap (λ (m : ℕ). m * 2) r.1.1 ∙ mul_assoc (2 * q + 1) (2 ^ T) 2 ∙ ap (λ (m : ℕ). (2 * q + 1) * m) (sym (pow-suc 2 T))))
    go (suc d) e ih =
        let odd : n ≡ 2 * (n / 2) + 1 = omega (arith, mod-lt n (zero-lt-suc 1)) in
        (omega arith, (n / 2, odd ∙ sym (mul-one (2 * (n / 2) + 1))))

-- An odd number of blocks of s bits. One less has an even number of them, and only ones below: the two have the even number in common.
module _ (q s : ℕ) where
  odd_and : bit_and (2 * q + 1) (2 * q) ≡ 2 * q
  odd_and =
      let e : (2 * q + 1) / 2 ≡ q = omega arith in
      let f : (2 * q) / 2 ≡ q = omega arith in
      let g : min ((2 * q + 1) % 2) ((2 * q) % 2) ≡ 0 = omega arith in
      and_step (2 * q + 1) (2 * q) ∙ ap₂ (λ (a b : ℕ). a * 2 + b) (ap₂ bit_and e f ∙ and_self q) g ∙ omega arith

  even_or : bit_or (2 * q) 1 ≡ 2 * q + 1
  even_or =
      let f : (2 * q) / 2 ≡ q = omega arith in
      let g : max ((2 * q) % 2) 1 ≡ 1 = omega arith in
      or_step (2 * q) 1 ∙ ap₂ (λ (a b : ℕ). a * 2 + b) (ap (λ (m : ℕ). bit_or m 0) f ∙ or_zero_r q) g ∙ omega arith

  cleared : bit_and ((2 * q + 1) * 2 ^ s) ((2 * q + 1) * 2 ^ s - 1) ≡ 2 * q * 2 ^ s
  cleared =
      let some = pow_pos s in
      let split : (2 * q + 1) * 2 ^ s ≡ 2 * q * 2 ^ s + 2 ^ s = add-mul (2 * q) 1 (2 ^ s) ∙ ap (λ (m : ℕ). 2 * q * 2 ^ s + m) (one-mul (2 ^ s)) in
      let less : (2 * q + 1) * 2 ^ s - 1 ≡ 2 * q * 2 ^ s + (2 ^ s - 1) = omega arith in
      ap₂ bit_and (sym (add-zero ((2 * q + 1) * 2 ^ s))) less ∙ and_block s (2 * q + 1) (2 * q) 0 (2 ^ s - 1) some (omega arith)
      ∙ ap₂ (λ (a b : ℕ). a * 2 ^ s + b) odd_and (and_zero_l (2 ^ s - 1)) ∙ add-zero (2 * q * 2 ^ s)

  joined : bit_or (2 * q * 2 ^ s) (2 ^ s) ≡ (2 * q + 1) * 2 ^ s
  joined =
      let some = pow_pos s in
      let one : 2 ^ s ≡ 1 * 2 ^ s + 0 = sym (add-zero (1 * 2 ^ s) ∙ one-mul (2 ^ s)) in
      ap₂ bit_or (sym (add-zero (2 * q * 2 ^ s))) one ∙ or_block s (2 * q) 1 0 0 some some
      ∙ ap₂ (λ (a b : ℕ). a * 2 ^ s + b) even_or (or_zero_r 0) ∙ add-zero ((2 * q + 1) * 2 ^ s)

-- A set without its lowest bit: fewer bits are left, and the bit's router is the only one that is gone.
pub record Taken (set left head : ℕ) : Type 0 where
  pub in_row : head < 64
  pub fewer : left < set
  pub member : has set head ≡ true
  pub stays : (r : ℕ) → has left r ≡ true → has set r ≡ true
  pub split : (r : ℕ) → has set r ≡ true → (r ≡ head) ⊎ (has left r ≡ true)

pub taken : (n : ℕ) → (n ≡ 0 → ⊥) → n < 2 ^ 64 → Taken n (bit_and n (n - 1)) (count_trailing_zeros 64 n)
taken n some h = record {
  in_row = low.0;
  fewer = omega (arith, and_le_r n (n - 1));
  member = ap (λ (m : ℕ). has m head) whole ∙ has_or left (2 ^ head) head ∙ or_right (has left head) _ (has_self head);
  stays = λ r e. ap (λ (m : ℕ). has m r) whole ∙ has_or left (2 ^ head) r ∙ or_left _ _ e;
  split = λ r e. split r (ℕ_discrete r head) (or_cases _ _ (sym (ap (λ (m : ℕ). has m r) whole ∙ has_or left (2 ^ head) r) ∙ e));
}
  where
    head : ℕ
    head = count_trailing_zeros 64 n

    left : ℕ
    left = bit_and n (n - 1)

    low : (count_trailing_zeros 64 n < 64) × ((q : ℕ) × (n ≡ (2 * q + 1) * 2 ^ count_trailing_zeros 64 n))
    low = lowest 64 n (omega arith) h

    whole : n ≡ bit_or left (2 ^ head)
    whole =
        let q = low.1.0 in
        low.1.1 ∙ sym (joined q head) ∙ ap (λ (m : ℕ). bit_or m (2 ^ head)) (sym (ap (λ (m : ℕ). bit_and m (m - 1)) low.1.1 ∙ cleared q head))

    split : (r : ℕ) → Dec (r ≡ head) → (has left r ≡ true) ⊎ (has (2 ^ head) r ≡ true) → (r ≡ head) ⊎ (has left r ≡ true)
    split r (yes e) _ = inl e
    split r (no e) (inl s) = inr s
    split r (no e) (inr s) = absurd (false≢true (sym (has_other head r e) ∙ s))
