-- Parts of a list of bytes: parts of parts, parts put together, zeros, 16-bit fields.
-- Assumes nothing.
use Rattle.std.specs.Prelude.{ℕ, zero, suc, ◌+◌, ◌-◌, ◌*◌, ◌/◌, ◌%◌, ◌≤◌, ◌<◌, ◌≡◌, refl, true, List, [], ◌∷◌, ◌++◌, map, eqb, get_or, length, take, drop, replicate}
use Rattle.std.proofs.Common.{sym, ap₂, ◌∙◌, append_assoc, add-one, length-take, length-drop, get_or-drop, take-add, drop-drop, drop-cons, take_all, eqb-true}
use Rattle.std.proofs.Math.Path.{ap}
use native.Mathlib.Omega.{arith}
use Rattle.std.proofs.Math.Seq.{take-nil}
use Rattle.lfa.specs.Lists.{count_up, below, flat}
use Rattle.lfa.specs.File.{Bytes, byte_at, word_at, part_of, all_zero, sum_words}
use Rattle.lfa.specs.FileOf.{word_bytes, pad}
use Rattle.lfa.proofs.Laws.File.Passes.{AreBytes}
use Rattle.lfa.proofs.Laws.Test.{and_left, and_right}
use Rattle.lfa.proofs.Laws.Chunks.{part_element, part_of_part}

-- ---- lists one after the other

pub flat_append {ℓ} : {A : Type ℓ} (l m : List (List A)) → flat (l ++ m) ≡ flat l ++ flat m
unfolding flat
flat_append [] m = refl
flat_append (x ∷ l) m = rw (flat_append l m, append_assoc)

-- ---- parts

pub part_length : (b : Bytes) (k n : ℕ) → k + n ≤ length b → length (part_of b k n) ≡ n
unfolding part_of
part_length b k n h = simp (length-take, length-drop) (omega arith)

pub byte_part : (b : Bytes) (k n i : ℕ) → i < n → byte_at (part_of b k n) i ≡ byte_at b (k + i)
unfolding part_of byte_at
byte_part b k n i h = part_element b k n i 0 h

pub word_part : (b : Bytes) (k n i : ℕ) → i + 1 < n → word_at (part_of b k n) i ≡ word_at b (k + i)
unfolding word_at
word_part b k n i h =
    let e : k + (i + 1) ≡ k + i + 1 = omega arith in
    rw (byte_part b k n i (omega arith), byte_part b k n (i + 1) h, e)

pub part_whole : (b : Bytes) (n : ℕ) → length b ≡ n → part_of b 0 n ≡ b
unfolding part_of
part_whole b n e = take_all n b (omega arith)

pub part_rest : (b : Bytes) (k n : ℕ) → length b ≡ n → part_of b k (n - k) ≡ drop k b
unfolding part_of
part_rest b k n e = take_all (n - k) (drop k b) (simp length-drop (omega arith))

-- a part of a part
pub part_part : (b : Bytes) (k n j m : ℕ) → j + m ≤ n → part_of (part_of b k n) j m ≡ part_of b (k + j) m
unfolding part_of
part_part b k n j m h = part_of_part b k n j m h

-- two parts, the second from where the first ends
pub parts_join : (b : Bytes) (k m n : ℕ) → part_of b k m ++ part_of b (k + m) n ≡ part_of b k (m + n)
unfolding part_of
parts_join b k m n = sym (take-add m n (drop k b) ∙ ap (λ (l : Bytes). take m (drop k b) ++ take n l) (drop-drop m k b))

pub part_none : (b : Bytes) (k : ℕ) → part_of b k 0 ≡ []
unfolding part_of
part_none b k = refl

pub part_cons : (b : Bytes) (k n : ℕ) → k < length b → part_of b k (n + 1) ≡ byte_at b k ∷ part_of b (k + 1) n
unfolding part_of byte_at
part_cons b k n h = rw (add-one n, add-one k, drop-cons b k 0)

counted_parts : (b : Bytes) (k size i n : ℕ) → flat (map (λ i. part_of b (k + size * i) size) (count_up i n)) ≡ part_of b (k + size * i) (size * n)
unfolding flat count_up
counted_parts b k size i zero = let e : size * 0 ≡ 0 = omega arith in rw (e, part_none)
counted_parts b k size i (suc n) =
    let e : k + size * suc i ≡ k + size * i + size = omega arith in
    let e' : size * suc n ≡ size + size * n = omega arith in
    rw (counted_parts b k size (suc i) n, e, e') (parts_join b (k + size * i) size (size * n))

-- The parts of one size, one after the other, are one part.
pub flat_parts : (b : Bytes) (k size n : ℕ) → flat (map (λ i. part_of b (k + size * i) size) (below n)) ≡ part_of b k (size * n)
unfolding below
flat_parts b k size n = let e : k + size * 0 ≡ k = omega arith in counted_parts b k size 0 n ∙ ap (λ j. part_of b j (size * n)) e

-- ---- zeros

pub zeros : (b : Bytes) → all_zero b ≡ true → b ≡ replicate (length b) 0
unfolding all_zero
zeros [] e = refl
zeros (x ∷ b) e = ap₂ {C = Bytes} (λ y r. y ∷ r) (eqb-true x 0 (and_left _ _ e)) (zeros b (and_right (eqb x 0) _ e))

-- A part that is zero after its first m bytes is those bytes, padded with zeros.
pub padded : (b : Bytes) (k m n : ℕ) → m ≤ n → k + n ≤ length b → all_zero (part_of b (k + m) (n - m)) ≡ true → part_of b k n ≡ pad n (part_of b k m)
unfolding pad
padded b k m n h f z =
    let l : length (part_of b k m) ≡ m = part_length b k m (omega arith) in
    let l' : length (part_of b (k + m) (n - m)) ≡ n - m = part_length b (k + m) (n - m) (omega arith) in
    let e : m + (n - m) ≡ n = omega arith in
    rw (l, ← l', ← zeros (part_of b (k + m) (n - m)) z, parts_join, e)

-- ---- 16-bit fields

take_le : (n i : ℕ) (l : List ℕ) → get_or (take n l) i 0 ≤ get_or l i 0
take_le zero i l = omega arith
take_le (suc n) i [] = omega arith
take_le (suc n) zero (x ∷ l) = omega arith
take_le (suc n) (suc i) (x ∷ l) = take_le n i l

-- a part of a list of bytes is one
pub part_bytes : (b : Bytes) (k n : ℕ) → AreBytes b → AreBytes (part_of b k n)
unfolding part_of
part_bytes b k n h = record { small = λ i. omega (arith, take_le n i (drop k b), get_or-drop k b i 0, h.small (k + i)) }

pub word_small : (b : Bytes) (k : ℕ) → AreBytes b → word_at b k ≤ 65535
unfolding word_at byte_at
word_small b k h = omega (arith, h.small k, h.small (k + 1))

-- a field is written as it stood
pub word_written : (b : Bytes) (k : ℕ) → AreBytes b → k + 2 ≤ length b → word_bytes (word_at b k) ≡ part_of b k 2
unfolding word_bytes word_at
word_written b k h f =
    let lo : byte_at b k < 256 = unfold byte_at in h.small k in
    let q : (byte_at b k + 256 * byte_at b (k + 1)) / 256 ≡ byte_at b (k + 1) = omega arith in
    let r : (byte_at b k + 256 * byte_at b (k + 1)) % 256 ≡ byte_at b k = omega arith in
    rw (q, r) (sym (part_cons b k 1 (omega arith) ∙ ap {B = Bytes} (λ l. byte_at b k ∷ l) (part_cons b (k + 1) 0 (omega arith) ∙ rw part_none)))

-- the sum of n words is that of the first 2 × n bytes
pub sum_of_taken : (n : ℕ) (b : Bytes) → sum_words n (take (2 * n) b) ≡ sum_words n b
unfolding sum_words
sum_of_taken zero b = refl
sum_of_taken (suc n) [] = rw take-nil
sum_of_taken (suc n) (x ∷ []) = let e : 2 * suc n ≡ suc (suc (2 * n)) = omega arith in rw e
sum_of_taken (suc n) (x ∷ y ∷ b) = let e : 2 * suc n ≡ suc (suc (2 * n)) = omega arith in rw (e, sum_of_taken n b)
