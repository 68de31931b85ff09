-- Laws of the block check: its words taken several at a time.
-- Assumes nothing.
use Rattle.std.proofs.Common.{◌≡◌, ℕ, ◌+◌, ◌*◌, ◌%◌, drop, refl, ap, ◌∙◌, arith, drop-drop}
use native.Mathlib.Nat.{mod-add-mod}
use Rattle.lfa.specs.File.{Bytes, word_at, sum_words}
use Rattle.lfa.proofs.Laws.File.Sum.{sum_split, sum_word, sum_next}

sum_three : (at : ℕ) (b : Bytes) → sum_words 3 (drop at b) ≡ word_at b at + word_at b (at + 2) + word_at b (at + 2 + 2)
unfolding sum_words
sum_three at b = omega (arith, sum_next 2 at b, sum_next 1 (at + 2) b, sum_word b (at + 2 + 2))

pub sum_four : (at : ℕ) (b : Bytes) → sum_words 4 (drop at b) ≡ word_at b at + word_at b (at + 2) + (word_at b (at + 4) + word_at b (at + 4 + 2))
sum_four at b =
    let e : at + 2 + 2 ≡ at + 4 = omega arith in
    let last : sum_words 2 (drop (at + 4) b) ≡ word_at b (at + 4) + word_at b (at + 4 + 2) = omega (arith, sum_next 1 (at + 4) b, sum_word b (at + 4 + 2)) in
    let next : sum_words 3 (drop (at + 2) b) ≡ word_at b (at + 2) + sum_words 2 (drop (at + 4) b) = sum_next 2 (at + 2) b ∙ rw (e) in
    omega (arith, sum_next 3 at b, next, last)

-- ---- three parts of 84 words, side by side, and the three words after them

-- the sum of the first i times four words of each part
unfoldable pub taken : ℕ → Bytes → ℕ
taken i b = sum_words (4 * i) b + sum_words (4 * i) (drop 168 b) + sum_words (4 * i) (drop 336 b)

taken_none : (b : Bytes) → taken 0 b ≡ 0
unfolding taken sum_words
taken_none b = refl

-- four words more of the part that starts at an offset
part_more : (start at i : ℕ) (b : Bytes) → start + 8 * i ≡ at → sum_words (4 * (i + 1)) (drop start b) ≡ sum_words (4 * i) (drop start b) + sum_words 4 (drop at b)
part_more start at i b e =
    let k : 4 * (i + 1) ≡ 4 * i + 4 = omega arith in
    let o : start + 2 * (4 * i) ≡ at = omega arith in
    let d : drop (2 * (4 * i)) (drop start b) ≡ drop at b = drop-drop (2 * (4 * i)) start b ∙ ap (λ (n : ℕ). drop n b) o in
    rw (k, sum_split (4 * i) 4 (drop start b), d)

taken_more : (i : ℕ) (b : Bytes) → taken (i + 1) b ≡ taken i b + (sum_words 4 (drop (8 * i) b) + sum_words 4 (drop (8 * i + 168) b) + sum_words 4 (drop (8 * i + 336) b))
unfolding taken
taken_more i b =
    let first : sum_words (4 * (i + 1)) b ≡ sum_words (4 * i) b + sum_words 4 (drop (8 * i) b) = part_more 0 (8 * i) i b (omega arith) in
    omega (arith, first, part_more 168 (8 * i + 168) i b (omega arith), part_more 336 (8 * i + 336) i b (omega arith))

taken_all : (b : Bytes) → sum_words 3 (drop 504 b) + taken 21 b ≡ sum_words 255 b
unfolding taken
taken_all b =
    let second : drop 168 (drop 168 b) ≡ drop 336 b = drop-drop 168 168 b in
    let third : drop 168 (drop 336 b) ≡ drop 504 b = drop-drop 168 336 b in
    let after : sum_words 87 (drop 336 b) ≡ sum_words 84 (drop 336 b) + sum_words 3 (drop 504 b) = sum_split 84 3 (drop 336 b) ∙ rw (third) in
    let between : sum_words 171 (drop 168 b) ≡ sum_words 84 (drop 168 b) + sum_words 87 (drop 336 b) = sum_split 84 87 (drop 168 b) ∙ rw (second) in
    omega (arith, sum_split 84 171 b, between, after)

-- The running check: a wrapping add adds modulo 65,536.
wrapped : (sum next s n : ℕ) → sum ≡ s % 65536 → next ≡ n % 65536 → (sum + next) % 65536 ≡ (s + n) % 65536
wrapped sum next s n e f = omega arith

-- the three words after the parts
pub rest_sum : (b : Bytes) (x y z sum : ℕ) → x ≡ word_at b 504 → y ≡ word_at b 506 → z ≡ word_at b 508 → sum ≡ (x + y) % 65536 → (sum + z) % 65536 ≡ sum_words 3 (drop 504 b) % 65536
rest_sum b x y z sum x-is y-is z-is e =
    let s : x + y + z ≡ sum_words 3 (drop 504 b) = omega (arith, sum_three 504 b) in
    rw (e) (mod-add-mod (x + y) 65536 z) ∙ ap (λ (n : ℕ). n % 65536) s

pub check_none : (b : Bytes) → sum_words 3 (drop 504 b) % 65536 ≡ (sum_words 3 (drop 504 b) + taken 0 b) % 65536
check_none b = ap (λ (n : ℕ). n % 65536) (omega (arith, taken_none b))

pub check_more : (i sum next : ℕ) (b : Bytes) → sum ≡ (sum_words 3 (drop 504 b) + taken i b) % 65536 →
    next ≡ (sum_words 4 (drop (8 * i) b) + sum_words 4 (drop (8 * i + 168) b) + sum_words 4 (drop (8 * i + 336) b)) % 65536 →
    (sum + next) % 65536 ≡ (sum_words 3 (drop 504 b) + taken (i + 1) b) % 65536
check_more i sum next b e f = wrapped sum next _ _ e f ∙ ap (λ (n : ℕ). n % 65536) (omega (arith, taken_more i b))

pub check_all : (i : ℕ) (b : Bytes) → i ≡ 21 → (sum_words 3 (drop 504 b) + taken i b) % 65536 ≡ sum_words 255 b % 65536
check_all i b e = rw (e, taken_all b)
