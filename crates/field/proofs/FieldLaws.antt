-- Fields near the end of the bytes, and zeros, one step of the loop at a time.
-- Assumes nothing.
use Prim.Native.Nat.{ℕ, zero, suc, ◌+◌, ◌*◌, ◌≤◌, ◌<◌}
use mathlib.Core.Path.{◌≡◌, refl, sym, ◌∙◌}
use mathlib.Core.Bool.{Bool, true, false, ◌&&◌}
use mathlib.Core.List.{[], ◌∷◌}
use native.Mathlib.Omega.{arith}
use native.Mathlib.Nat.{le_of_suc-le-suc, not-suc-le-zero}
use native.Mathlib.Numerals.{add-one}
use lib.ListN.{get_or, length, drop}
use lib.Seq.{drop-cons}
use borrow.Author.Tests.{eq-eqb, ne_eqb}
use Rattle.lfa.specs.File.{Bytes, byte_at, word_at, all_zero}
use Rattle.lfa.proofs.Laws.Test.{fails_right}

-- ---- bytes past the end

past_end : (b : Bytes) (k : ℕ) → length b ≤ k → get_or b k 0 ≡ 0
past_end [] k h = refl
past_end (x ∷ b) zero h = absurd (not-suc-le-zero h)
past_end (x ∷ b) (suc k) h = past_end b k (le_of_suc-le-suc h)

-- a field all of whose bytes are past the end, and one whose second byte is
module _ (b : Bytes) (k : ℕ) where
  pub word_past : length b ≤ k → 0 ≡ word_at b k
  unfolding word_at byte_at
  word_past h = sym (rw (past_end b k h, past_end b (k + 1) (omega arith)))

  pub word_last : length b ≤ k + 1 → get_or b k 0 + 256 * 0 ≡ word_at b k
  unfolding word_at byte_at
  word_last h = sym (rw (past_end b (k + 1) h))

-- ---- zeros

and_true : (z : Bool) → (z && true) ≡ z
and_true true = refl
and_true false = refl

module _ (s : Bytes) (i : ℕ) (h : i < length s) where
  first_byte : drop i s ≡ get_or s i 0 ∷ drop (i + 1) s
  first_byte = rw (add-one i, drop-cons s i 0 h)

  -- The turns of the loop, where z tells whether the bytes before i are zero. A zero is passed:
  pub zero_passed : {y z : Bool} → get_or s i 0 ≡ 0 → y ≡ z → all_zero s ≡ (z && all_zero (drop i s)) → all_zero s ≡ (y && all_zero (drop (i + 1) s))
  unfolding all_zero
  zero_passed e q inv =
      let rest : all_zero (drop i s) ≡ all_zero (drop (i + 1) s) = rw (first_byte, all_zero, eq-eqb (get_or s i 0) 0 e) in
      inv ∙ rw (q, rest)

  -- another byte is found:
  pub zero_fails : (z : Bool) {y : Bool} → (get_or s i 0 ≡ 0 → ⊥) → y ≡ false → all_zero s ≡ (z && all_zero (drop i s)) → all_zero s ≡ (y && all_zero (drop (i + 1) s))
  unfolding all_zero
  zero_fails z f q inv =
      let rest : all_zero (drop i s) ≡ false = rw (first_byte, all_zero, ne_eqb (get_or s i 0) 0 f) in
      inv ∙ fails_right z _ rest ∙ rw q

-- the end is reached
rest_none : (s : Bytes) (i : ℕ) → length s ≤ i → all_zero (drop i s) ≡ true
unfolding all_zero
rest_none [] zero h = refl
rest_none [] (suc i) h = refl
rest_none (x ∷ s) zero h = absurd (not-suc-le-zero h)
rest_none (x ∷ s) (suc i) h = rest_none s i (le_of_suc-le-suc h)

pub zero_ends : (s : Bytes) (i : ℕ) (z : Bool) → length s ≤ i → all_zero s ≡ (z && all_zero (drop i s)) → z ≡ all_zero s
zero_ends s i z h inv = sym (inv ∙ rw (rest_none s i h, and_true z))
