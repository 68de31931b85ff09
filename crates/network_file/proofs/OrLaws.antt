-- The bitwise or over several numbers, as a loop keeps it: it is below a power of two exactly where each of the numbers is.
-- Assumes nothing.
use Prim.Native.Nat.{ℕ, ◌+◌, ◌^◌, ◌<◌}
use mathlib.Core.Path.{◌≡◌, sym, ◌∙◌}
use mathlib.Core.Bool.{Bool, true, ◌&&◌}
use native.Mathlib.Omega.{arith}
use native.Mathlib.Numerals.{add-one}
use lib.Bits.{bit_or, or_lt, or_add_and, and_le_l, and_le_r}
use lib.Dec.{eqb, ltb}
use borrow.Author.Tests.{eqb-true, eq-eqb, ltb-true, lt-ltb}
use Rattle.lfa.specs.Lists.{every_below}
use Rattle.lfa.proofs.Laws.Test.{and_left, and_right, and_make, same_test}

-- An or is at least each of its two numbers: with their and it makes up their sum, and the and is at most either. So where the or is
-- below 2 ^ k both are; the other way round it has no bit that neither has.
or_below : (k a b : ℕ) → ltb (bit_or a b) (2 ^ k) ≡ (ltb a (2 ^ k) && ltb b (2 ^ k))
or_below k a b = same_test _ _ to from
  where
    to : ltb (bit_or a b) (2 ^ k) ≡ true → (ltb a (2 ^ k) && ltb b (2 ^ k)) ≡ true
    to t =
        let h : bit_or a b < 2 ^ k = ltb-true _ _ t in
        let sum = or_add_and a b in
        and_make _ _ (lt-ltb a (2 ^ k) (omega (arith, and_le_r a b))) (lt-ltb b (2 ^ k) (omega (arith, and_le_l a b)))

    from : (ltb a (2 ^ k) && ltb b (2 ^ k)) ≡ true → ltb (bit_or a b) (2 ^ k) ≡ true
    from t = lt-ltb _ _ (or_lt k a b (ltb-true _ _ (and_left _ _ t)) (ltb-true _ _ (and_right (ltb a (2 ^ k)) _ t)))

-- One turn of a loop: what is known of the or of the numbers before i is known of those up to i.
pub or_more : (k : ℕ) (p : ℕ → Bool) (i a b : ℕ) → ltb a (2 ^ k) ≡ every_below p i → ltb b (2 ^ k) ≡ p i → ltb (bit_or a b) (2 ^ k) ≡ every_below p (i + 1)
unfolding every_below
or_more k p i a b before here = or_below k a b ∙ rw (before, here, add-one i)

-- the same for an or that is 0, that is, below 1
below_one : (a : ℕ) → eqb a 0 ≡ ltb a (2 ^ 0)
below_one a = same_test _ _ (λ t. lt-ltb a 1 (omega (arith, eqb-true a 0 t))) (λ t. eq-eqb a 0 (omega (arith, ltb-true a 1 t)))

pub or_zero_more : (p : ℕ → Bool) (i a b : ℕ) → eqb a 0 ≡ every_below p i → eqb b 0 ≡ p i → eqb (bit_or a b) 0 ≡ every_below p (i + 1)
or_zero_more p i a b before here =
    below_one (bit_or a b) ∙ or_more 0 p i a b (sym (below_one a) ∙ before) (sym (below_one b) ∙ here)
