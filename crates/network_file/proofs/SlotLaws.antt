-- The slots of a prefix's entry, each as one number: the loops of row 8 over all eight, and bytes that are zero.
-- Assumes nothing.
use Prim.Native.Nat.{ℕ, zero, suc, ◌+◌, ◌-◌, ◌*◌, ◌/◌, ◌%◌, ◌≤◌, ◌<◌}
use mathlib.Core.Path.{◌≡◌, refl, sym, ap, ◌∙◌}
use mathlib.Core.Bool.{Bool, true, false, ◌&&◌, ◌||◌}
use mathlib.Core.Logic.{◌⊎◌, inl, inr}
use mathlib.Core.List.{List, [], ◌∷◌}
use native.Mathlib.Omega.{arith}
use lib.Bits.{bit_and, and_zero_r, and_mask}
use lib.Dec.{eqb, ltb}
use lib.ListN.{length, get_or, drop, length-drop}
use lib.Seq.{get_or-drop}
use borrow.Author.Tests.{eqb-true, eq-eqb, ltb-true, ltb-false, lt-ltb, le-ltb}
use Rattle.lfa.specs.Lists.{every_below}
use Rattle.lfa.specs.File.{Bytes, byte_at, word_at, all_zero, slot_router, slot_good}
use Rattle.lfa.proofs.Laws.Test.{and_left, and_right, and_make, or_left, or_right, decide, same_test}
use Rattle.lfa.proofs.Laws.Counting.{map_below_at}
use Rattle.lfa.proofs.Laws.List.{every_gives, every_make}
use Rattle.network_file.specs.Entry.{unused_zero, unused_mask, unused_masks}

-- ---- zeros

-- every byte of zeros is zero
zero_byte : (b : Bytes) → all_zero b ≡ true → (i : ℕ) → get_or b i 0 ≡ 0
unfolding all_zero
zero_byte [] e i = refl
zero_byte (x ∷ b) e zero = eqb-true x 0 (and_left (eqb x 0) (all_zero b) e)
zero_byte (x ∷ b) e (suc i) = zero_byte b (and_right (eqb x 0) (all_zero b) e) i

all_zero_lem : (b : Bytes) → ((i : ℕ) → i < length b → get_or b i 0 ≡ 0) → all_zero b ≡ true
unfolding all_zero
all_zero_lem [] f = refl
all_zero_lem (x ∷ b) f = and_make (eqb x 0) (all_zero b) (eq-eqb x 0 (f 0 (omega arith))) (all_zero_lem b (λ i h. f (suc i) (omega arith)))

-- the bytes from `start` on
pub zero_from : (e : Bytes) (start : ℕ) → all_zero (drop start e) ≡ true → (i : ℕ) → start ≤ i → get_or e i 0 ≡ 0
zero_from e start z i h =
    let p : start + (i - start) ≡ i = omega arith in
    ap (λ (m : ℕ). get_or e m 0) (sym p) ∙ sym (get_or-drop start e (i - start) 0) ∙ zero_byte (drop start e) z (i - start)

from_zero : (e : Bytes) (start : ℕ) → ((i : ℕ) → start ≤ i → i < length e → get_or e i 0 ≡ 0) → all_zero (drop start e) ≡ true
from_zero e start f = all_zero_lem (drop start e) (λ i h. get_or-drop start e i 0 ∙ f (start + i) (omega arith) (omega (arith, length-drop start e)))

-- ---- a slot as one number

-- the halves of the number that the code puts together
pub slot_halves : (e : Bytes) (s w : ℕ) →
    (w % 65536 ≡ get_or e (2 + 4 * s) 0 + 256 * get_or e (2 + 4 * s + 1) 0) × (w / 65536 ≡ get_or e (2 + 4 * s + 2) 0 + 256 * get_or e (2 + 4 * s + 3) 0) →
    (w % 65536 ≡ word_at e (2 + 4 * s)) × (w / 65536 ≡ word_at e (4 + 4 * s))
unfolding word_at byte_at
slot_halves e s w h =
    let third : 2 + 4 * s + 2 ≡ 4 + 4 * s = omega arith in
    let fourth : 2 + 4 * s + 3 ≡ 4 + 4 * s + 1 = omega arith in
    (h.0, h.1 ∙ rw (third, fourth))

-- ---- a slot under its mask

-- the table of masks holds that of each slot for each number of used slots
mask_at : (count s : ℕ) → count ≤ 8 → s < 8 → get_or unused_masks (8 * count + s) 0 ≡ unused_mask count s
unfolding unused_masks
mask_at count s few h =
    let row : (8 * count + s) / 8 ≡ count = omega arith in
    let place : (8 * count + s) % 8 ≡ s = omega arith in
    map_below_at (λ k. unused_mask (k / 8) (k % 8)) 0 72 (8 * count + s) (omega arith) ∙ rw (row, place)

-- What the code's test of a slot under its mask tells: nothing is left of a used slot, and all 32 bits of another.
pub slot_masked : (e : Bytes) (count s w : ℕ) (masks : List ℕ) → w < 4294967296 → count ≤ 8 → s < 8 → masks ≡ unused_masks →
    w % 65536 ≡ word_at e (2 + 4 * s) → w / 65536 ≡ word_at e (4 + 4 * s) → eqb (bit_and w (get_or masks (8 * count + s) 0)) 0 ≡ unused_zero e count s
unfolding unused_zero unused_mask
slot_masked e count s w masks fits few h is low high = rw (is, mask_at count s few h) (go (ltb s count))
  where
    whole : w ≡ word_at e (2 + 4 * s) + 65536 * word_at e (4 + 4 * s)
    whole = omega arith

    go : (b : Bool) → eqb (bit_and w (elim b [ true ↦ 0 | false ↦ 4294967295 ])) 0 ≡ (b || eqb (word_at e (2 + 4 * s) + 65536 * word_at e (4 + 4 * s)) 0)
    go true = eq-eqb _ 0 (and_zero_r w)
    go false = let all : w % 4294967296 ≡ w = omega arith in ap (λ (m : ℕ). eqb m 0) (and_mask w 32 ∙ all ∙ whole)

-- ---- all eight slots

-- a used slot: below n ≤ 64, the two bytes as one number, means that the router is and that the other byte is zero
used_slot : (n : ℕ) (e : Bytes) (s : ℕ) → n ≤ 64 → ltb (word_at e (2 + 4 * s)) n ≡ slot_good n e s
unfolding word_at slot_good slot_router byte_at
used_slot n e s h = same_test _ _ to from
  where
    next : 2 + 4 * s + 1 ≡ 3 + 4 * s
    next = omega arith

    to : ltb (get_or e (2 + 4 * s) 0 + 256 * get_or e (2 + 4 * s + 1) 0) n ≡ true → (ltb (get_or e (2 + 4 * s) 0) n && eqb (get_or e (3 + 4 * s) 0) 0) ≡ true
    to t =
        let below : get_or e (2 + 4 * s) 0 + 256 * get_or e (3 + 4 * s) 0 < n = rw next at (ltb-true _ n t) in
        and_make _ _ (lt-ltb (get_or e (2 + 4 * s) 0) n (omega arith)) (eq-eqb (get_or e (3 + 4 * s) 0) 0 (omega arith))

    from : (ltb (get_or e (2 + 4 * s) 0) n && eqb (get_or e (3 + 4 * s) 0) 0) ≡ true → ltb (get_or e (2 + 4 * s) 0 + 256 * get_or e (2 + 4 * s + 1) 0) n ≡ true
    from t =
        let router : get_or e (2 + 4 * s) 0 < n = ltb-true _ n (and_left _ _ t) in
        let second : get_or e (3 + 4 * s) 0 ≡ 0 = eqb-true _ 0 (and_right (ltb (get_or e (2 + 4 * s) 0) n) _ t) in
        rw next (lt-ltb (get_or e (2 + 4 * s) 0 + 256 * get_or e (3 + 4 * s) 0) n (omega arith))

-- four bytes in a row
four : (e : Bytes) (k j : ℕ) → j < 4 → get_or e k 0 ≡ 0 → get_or e (k + 1) 0 ≡ 0 → get_or e (k + 2) 0 ≡ 0 → get_or e (k + 3) 0 ≡ 0 → get_or e (k + j) 0 ≡ 0
four e k zero h a b c d = let q : k + 0 ≡ k = omega arith in rw q a
four e k (suc zero) h a b c d = b
four e k (suc (suc zero)) h a b c d = c
four e k (suc (suc (suc zero))) h a b c d = d
four e k (suc (suc (suc (suc j)))) h a b c d = absurd (omega arith)

module _ (n : ℕ) (e : Bytes) (count : ℕ) (long : length e ≡ 34) (few : count ≤ 8) (some : 1 ≤ n) (small : n ≤ 64) where
  -- a number lifted by 65,536 - n is below 65,536 exactly where the number is below n
  lifted : (s : ℕ) → ltb (word_at e (2 + 4 * s) + (65536 - n)) 65536 ≡ ltb (word_at e (2 + 4 * s)) n
  lifted s =
      same_test _ _
      (λ t. lt-ltb (word_at e (2 + 4 * s)) n (omega (arith, ltb-true (word_at e (2 + 4 * s) + (65536 - n)) 65536 t)))
      (λ t. lt-ltb (word_at e (2 + 4 * s) + (65536 - n)) 65536 (omega (arith, ltb-true (word_at e (2 + 4 * s)) n t)))

  -- a slot that is not used and passes has four zero bytes
  unused_zero_lem : (s : ℕ) → count ≤ s → unused_zero e count s ≡ true → (j : ℕ) → j < 4 → get_or e (2 + 4 * s + j) 0 ≡ 0
  unfolding unused_zero word_at byte_at
  unused_zero_lem s h t j l =
      let z : get_or e (2 + 4 * s) 0 + 256 * get_or e (2 + 4 * s + 1) 0 + 65536 * (get_or e (4 + 4 * s) 0 + 256 * get_or e (4 + 4 * s + 1) 0) ≡ 0 = eqb-true _ 0 (rw (le-ltb s count h) at t) in
      let third : 4 + 4 * s ≡ 2 + 4 * s + 2 = omega arith in
      let fourth : 4 + 4 * s + 1 ≡ 2 + 4 * s + 3 = omega arith in
      four e (2 + 4 * s) j l (omega arith) (omega arith) (rw (← third) (omega arith)) (rw (← fourth) (omega arith))

  -- The two tests of all eight slots, that the routers are below n and that unused slots are zero, are row 8's of the used slots and
  -- of the bytes after them: a slot that is not used is zero, and 0 is below n.
  pub eight_tested : (every_below (λ s. ltb (word_at e (2 + 4 * s) + (65536 - n)) 65536) 8 && every_below (unused_zero e count) 8)
      ≡ (every_below (slot_good n e) count && all_zero (drop (2 + 4 * count) e))
  unfolding unused_zero word_at byte_at
  eight_tested = same_test _ _ to from
    where
      over : ℕ → Bool
      over s = ltb (word_at e (2 + 4 * s) + (65536 - n)) 65536

      to : (every_below over 8 && every_below (unused_zero e count) 8) ≡ true → (every_below (slot_good n e) count && all_zero (drop (2 + 4 * count) e)) ≡ true
      to t = and_make _ _ (every_make (slot_good n e) count used) (from_zero e (2 + 4 * count) rest)
        where
          used : (s : ℕ) → s < count → slot_good n e s ≡ true
          used s h = sym (used_slot n e s small) ∙ sym (lifted s) ∙ every_gives over 8 (and_left _ _ t) s (omega arith)

          rest : (i : ℕ) → 2 + 4 * count ≤ i → i < length e → get_or e i 0 ≡ 0
          rest i h l =
              let s = (i - 2) / 4 in
              let j = (i - 2) % 4 in
              let q : i ≡ 2 + 4 * ((i - 2) / 4) + (i - 2) % 4 = omega arith in
              let passed = every_gives (unused_zero e count) 8 (and_right (every_below over 8) _ t) s (omega arith) in
              ap (λ (m : ℕ). get_or e m 0) q ∙ unused_zero_lem s (omega arith) passed j (omega arith)

      from : (every_below (slot_good n e) count && all_zero (drop (2 + 4 * count) e)) ≡ true → (every_below over 8 && every_below (unused_zero e count) 8) ≡ true
      from t = and_make _ _ (every_make over 8 (λ s l. routers s (decide (ltb s count)))) (every_make (unused_zero e count) 8 (λ s l. zero_slot s (decide (ltb s count))))
        where
          zeros : (i : ℕ) → 2 + 4 * count ≤ i → get_or e i 0 ≡ 0
          zeros = zero_from e (2 + 4 * count) (and_right (every_below (slot_good n e) count) _ t)

          low : (s : ℕ) → count ≤ s → word_at e (2 + 4 * s) ≡ 0
          low s h = omega (arith, zeros (2 + 4 * s) (omega arith), zeros (2 + 4 * s + 1) (omega arith))

          high : (s : ℕ) → count ≤ s → word_at e (4 + 4 * s) ≡ 0
          high s h = omega (arith, zeros (4 + 4 * s) (omega arith), zeros (4 + 4 * s + 1) (omega arith))

          routers : (s : ℕ) → (ltb s count ≡ true) ⊎ (ltb s count ≡ false) → over s ≡ true
          routers s (inl b) = lifted s ∙ (used_slot n e s small ∙ every_gives (slot_good n e) count (and_left _ _ t) s (ltb-true s count b))
          routers s (inr b) = lifted s ∙ lt-ltb (word_at e (2 + 4 * s)) n (omega (arith, low s (ltb-false s count b)))

          zero_slot : (s : ℕ) → (ltb s count ≡ true) ⊎ (ltb s count ≡ false) → unused_zero e count s ≡ true
          zero_slot s (inl b) = or_left _ _ b
          zero_slot s (inr b) = or_right (ltb s count) _ (eq-eqb (word_at e (2 + 4 * s) + 65536 * word_at e (4 + 4 * s)) 0 (omega (arith, low s (ltb-false s count b), high s (ltb-false s count b))))
