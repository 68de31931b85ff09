-- The sum of the words of a block, taken several at a time.
-- Assumes nothing.
use Rattle.std.specs.Prelude.{ℕ, zero, suc, ◌+◌, ◌*◌, ◌≡◌, refl, [], ◌∷◌, drop}
use Rattle.std.proofs.Common.{ap, ◌∙◌, get_or-drop, drop-drop, arith, zero-add, suc-add}
use Rattle.lfa.specs.File.{Bytes, byte_at, word_at, sum_words}

sum_none : (m : ℕ) → sum_words m [] ≡ 0
unfolding sum_words
sum_none zero = refl
sum_none (suc m) = refl

-- The sum of k + m words is that of the first k, and that of the m after them.
pub sum_split : (k m : ℕ) (b : Bytes) → sum_words (k + m) b ≡ sum_words k b + sum_words m (drop (2 * k) b)
unfolding sum_words
sum_split zero m b = rw (zero-add m) (omega arith)
sum_split (suc k) m [] =
    let e : 2 * suc k ≡ suc (suc (2 * k)) = omega arith in
    rw (suc-add k m, e) (omega (arith, sum_none m))
sum_split (suc k) m (x ∷ []) =
    let e : 2 * suc k ≡ suc (suc (2 * k)) = omega arith in
    rw (suc-add k m, e) (omega (arith, sum_none m))
sum_split (suc k) m (x ∷ y ∷ b) =
    let e : 2 * suc k ≡ suc (suc (2 * k)) = omega arith in
    rw (suc-add k m, e) (omega (arith, sum_split k m b))

-- one word, at any offset
sum_first : (b : Bytes) → sum_words 1 b ≡ byte_at b 0 + 256 * byte_at b 1
unfolding sum_words byte_at
sum_first [] = refl
sum_first (x ∷ []) = omega arith
sum_first (x ∷ y ∷ b) = omega arith

pub sum_word : (b : Bytes) (at : ℕ) → sum_words 1 (drop at b) ≡ word_at b at
unfolding byte_at word_at
sum_word b at =
    let e : at + 0 ≡ at = omega arith in
    let low : byte_at (drop at b) 0 ≡ byte_at b at = get_or-drop at b 0 0 ∙ ap (byte_at b) e in
    let high : byte_at (drop at b) 1 ≡ byte_at b (at + 1) = get_or-drop at b 1 0 in
    omega (arith, sum_first (drop at b), low, high)

-- a word, and the n after it
pub sum_next : (n at : ℕ) (b : Bytes) → sum_words (1 + n) (drop at b) ≡ word_at b at + sum_words n (drop (at + 2) b)
sum_next n at b =
    let e : drop (2 * 1) (drop at b) ≡ drop (at + 2) b = drop-drop 2 at b in
    sum_split 1 n (drop at b) ∙ rw (e, sum_word b at)
