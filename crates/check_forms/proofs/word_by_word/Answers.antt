-- A turn of the loop adds one word.
-- Assumes nothing.
use Rattle.std.proofs.Common.{◌≡◌, ℕ, ◌+◌, ◌*◌, ◌%◌, refl, ap, ◌∙◌, arith}
use native.Mathlib.Nat.{mod-add-mod}
use Rattle.lfa.specs.File.{Bytes, byte_at, word_at, sum_words, check_of}
use Rattle.lfa.proofs.Laws.File.Sum.{sum_split, sum_word}
use Rattle.check_forms.proofs.word_by_word.Goals as goal

-- one word more, added by a wrapping add to the sum modulo 65,536
check_more : (n : ℕ) (b : Bytes) (sum word : ℕ) → sum ≡ sum_words n b % 65536 → word ≡ word_at b (2 * n) → (sum + word) % 65536 ≡ sum_words (n + 1) b % 65536
check_more n b sum word e f =
    let more : sum_words (n + 1) b ≡ sum_words n b + word_at b (2 * n) = sum_split n 1 b ∙ rw (sum_word b (2 * n)) in
    rw (e, f, more) (mod-add-mod (sum_words n b) 65536 (word_at b (2 * n)))

pub loop-i-init : goal.loop-i-init
unfolding sum_words
loop-i-init c = refl

pub loop-i-preserved : goal.loop-i-preserved
unfolding word_at byte_at
loop-i-preserved c = check_more _ _ _ _ c.loop-i.invariant c.word_of-sum.ensures

pub returns : goal.returns
unfolding check_of
returns c =
    let e : c.loop-i.i ≡ 255 = omega arith in
    c.loop-i.invariant ∙ ap (λ (k : ℕ). sum_words k c.args.block.now % 65536) e
