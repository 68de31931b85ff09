-- A written block reads back: its length, kind, entries, number, content, zero tail and check.
-- Assumes nothing.
use Prim.Native.Nat.{ℕ, zero, suc, ◌+◌, ◌-◌, ◌*◌, ◌/◌, ◌%◌, ◌≤◌, ◌<◌}
use Rattle.std.specs.Prelude.{◌≡◌, get_or, take, drop, replicate}
use Rattle.std.proofs.Math.Path.{refl}
use Rattle.std.proofs.Common.{sym, ap, ◌∙◌, length-drop, take_at, drop_at, get_or-append-add}
use Rattle.std.proofs.Math.Bool.{true}
use mathlib.Core.List.{List, [], ◌∷◌, ◌++◌, append_assoc, append-nil}
use native.Mathlib.Omega.{arith}
use Rattle.std.proofs.Math.Nat.{mul-le-mul_left}
use Rattle.std.proofs.Math.Dec.{eqb}
use Rattle.std.proofs.Math.ListN.{length, length-append}
use Rattle.std.proofs.lemmas.List.{length-replicate, take-append-le, drop-append-le}
use borrow.Author.Tests.{eq-eqb}
use Rattle.lfa.specs.Lists.{flat}
use Rattle.lfa.specs.File.{Bytes, byte_at, word_at, part_of, all_zero, sum_words, check_of, later_good}
use Rattle.lfa.specs.FileOf.{word_bytes, pad, block_bytes, entries_block}
use Rattle.lfa.proofs.Laws.File.Passes.{AreBytes}
use Rattle.lfa.proofs.Laws.Test.{and_make}
use Rattle.lfa.proofs.Laws.File.Bytes.{zeros_zero}
use Rattle.lfa.proofs.Laws.Chunks.{EachLong, length_flat, part_flat}
use Rattle.lfa.proofs.Laws.File.Bytes.{word_back, cons_bytes, append_bytes, word_bytes_lem, pad_bytes, flat_bytes}

-- ---- padding

pub pad_long : (n : ℕ) (b : Bytes) → length b ≤ n → length (pad n b) ≡ n
unfolding pad
pad_long n b h = omega (arith, length-append b (replicate (n - length b) 0), length-replicate {A = ℕ} (n - length b) 0)

-- a part of what was padded
pub part_padded : (n : ℕ) (b rest : Bytes) (k m : ℕ) → k + m ≤ length b → take m (drop k (pad n b ++ rest)) ≡ take m (drop k b)
unfolding pad
part_padded n b rest k m h =
    rw (append_assoc b (replicate (n - length b) 0) rest, drop-append-le k b (replicate (n - length b) 0 ++ rest) (omega arith))
    (take-append-le m (drop k b) (replicate (n - length b) 0 ++ rest) (omega (arith, length-drop k b)))

-- what follows is zero
pub zero_padded : (n : ℕ) (b rest : Bytes) → take (n - length b) (drop (length b) (pad n b ++ rest)) ≡ replicate (n - length b) 0
unfolding pad
zero_padded n b rest =
    rw (append_assoc b (replicate (n - length b) 0) rest, drop_at b (replicate (n - length b) 0 ++ rest) (length b) refl)
    (take_at (replicate (n - length b) 0) rest (n - length b) (length-replicate (n - length b) 0))

-- ---- the check

-- The sum of the first n words looks at no later byte: each step takes two bytes, so 2 × n bytes are enough for n steps.
sum_front : (n : ℕ) (a b : Bytes) → length a ≡ 2 * n → sum_words n (a ++ b) ≡ sum_words n a
unfolding sum_words
sum_front zero a b h = refl
sum_front (suc n) [] b h = absurd (omega arith)
sum_front (suc n) (x ∷ []) b h = absurd (omega arith)
sum_front (suc n) (x ∷ y ∷ a) b h = ap (λ (s : ℕ). x + 256 * y + s) (sum_front n a b (omega arith))

check_small : (b : Bytes) → check_of b ≤ 65535
unfolding check_of
check_small b = omega arith

-- a 16-bit field after k bytes
word_after : (front : Bytes) (w k : ℕ) → length front ≡ k → word_at (front ++ word_bytes w) k ≡ w
unfolding word_at byte_at word_bytes
word_after front w k h =
    let z : k ≡ length front + 0 = omega arith in
    let first : get_or (front ++ word_bytes w) k 0 ≡ w % 256 = ap (λ (i : ℕ). get_or (front ++ word_bytes w) i 0) z ∙ get_or-append-add front (word_bytes w) 0 0 in
    let s : k + 1 ≡ length front + 1 = omega arith in
    let second : get_or (front ++ word_bytes w) (k + 1) 0 ≡ w / 256 = ap (λ (i : ℕ). get_or (front ++ word_bytes w) i 0) s ∙ get_or-append-add front (word_bytes w) 1 0 in
    omega arith

-- bytes after the first 510 do not change the check
pub check_front : (front rest : Bytes) → length front ≡ 510 → check_of (front ++ rest) ≡ check_of front
unfolding check_of
check_front front rest h = ap (λ (s : ℕ). s % 65536) (sum_front 255 front rest h)

-- 510 bytes and their check after them: the check of the whole is that of the 510, and the field at 510 reads it back.
check_right : (front : Bytes) → length front ≡ 510 → check_of (front ++ word_bytes (check_of front)) ≡ word_at (front ++ word_bytes (check_of front)) 510
check_right front h = check_front front (word_bytes (check_of front)) h ∙ sym (word_after front (check_of front) 510 h)

-- ---- a block

-- all of a block but its check
abbrev pub front_bytes : ℕ → ℕ → ℕ → Bytes → Bytes
front_bytes kind entries number content = kind ∷ entries ∷ word_bytes number ++ pad 506 content

pub front_long : (kind entries number : ℕ) (content : Bytes) → length content ≤ 506 → length (front_bytes kind entries number content) ≡ 510
unfolding word_bytes
front_long kind entries number content fits = omega (arith, pad_long 506 content fits)

module _ (kind entries number : ℕ) (content : Bytes) where
  pub block_kind : byte_at (block_bytes kind entries number content) 0 ≡ kind
  unfolding byte_at block_bytes
  block_kind = refl

  pub block_entries : byte_at (block_bytes kind entries number content) 1 ≡ entries
  unfolding byte_at block_bytes
  block_entries = refl

  pub block_number : word_at (block_bytes kind entries number content) 2 ≡ number
  unfolding word_at byte_at block_bytes word_bytes
  block_number = word_back number

module _ (kind entries number : ℕ) (content : Bytes) (fits : length content ≤ 506) where
  pub block_long : length (block_bytes kind entries number content) ≡ 512
  unfolding block_bytes word_bytes
  block_long =
      let front : Bytes = front_bytes kind entries number content in
      omega (arith, front_long kind entries number content fits, length-append front (word_bytes (check_of front)))

  pub block_content : (k m : ℕ) → k + m ≤ length content → part_of (block_bytes kind entries number content) (4 + k) m ≡ part_of content k m
  unfolding part_of block_bytes word_bytes
  block_content k m h =
      let s : 4 + k ≡ suc (suc (suc (suc k))) = omega arith in
      rw s (part_padded 506 content (word_bytes (check_of (front_bytes kind entries number content))) k m h)

  pub block_tail : all_zero (part_of (block_bytes kind entries number content) (4 + length content) (506 - length content)) ≡ true
  unfolding part_of block_bytes word_bytes
  block_tail =
      let s : 4 + length content ≡ suc (suc (suc (suc (length content)))) = omega arith in
      rw (s, zero_padded 506 content (word_bytes (check_of (front_bytes kind entries number content)))) (zeros_zero (506 - length content))

  pub block_check : check_of (block_bytes kind entries number content) ≡ word_at (block_bytes kind entries number content) 510
  unfolding block_bytes
  block_check = check_right (front_bytes kind entries number content) (front_long kind entries number content fits)

  pub block_bytes_lem : kind < 256 → entries < 256 → number ≤ 65535 → AreBytes content → AreBytes (block_bytes kind entries number content)
  unfolding block_bytes
  block_bytes_lem h h' h'' m =
      let front : Bytes = front_bytes kind entries number content in
      append_bytes front (word_bytes (check_of front))
      (cons_bytes kind _ h (cons_bytes entries _ h' (append_bytes (word_bytes number) (pad 506 content) (word_bytes_lem number h'') (pad_bytes 506 content m))))
      (word_bytes_lem (check_of front) (check_small front))

-- ---- a block of entries of one size

module _ (kind number size : ℕ) (entries : List Bytes) (long : EachLong size entries) (fits : size * length entries ≤ 506) where
  content_long : length (flat entries) ≡ size * length entries
  content_long = length_flat size entries long

  content_fits : length (flat entries) ≤ 506
  content_fits = omega (arith, content_long)

  pub entries_long : length (entries_block kind number entries) ≡ 512
  unfolding entries_block
  entries_long = block_long kind (length entries) number (flat entries) content_fits

  pub entries_check : check_of (entries_block kind number entries) ≡ word_at (entries_block kind number entries) 510
  unfolding entries_block
  entries_check = block_check kind (length entries) number (flat entries) content_fits

  content_part : (i : ℕ) → i < length entries → part_of (flat entries) (size * i) size ≡ get_or entries i []
  unfolding part_of
  content_part i h = rw append-nil at (part_flat size entries [] long i h)

  -- the bytes of entry i
  pub entry_part : (i : ℕ) → i < length entries → part_of (entries_block kind number entries) (4 + size * i) size ≡ get_or entries i []
  unfolding entries_block
  entry_part i h =
      let room : size * i + size ≤ length (flat entries) = omega (arith, content_long, mul-le-mul_left size h) in
      block_content kind (length entries) number (flat entries) content_fits (size * i) size room ∙ content_part i h

  -- Row 5's test of the block: number, kind and entries read back, and after the last entry stands the padding.
  pub entries_good : later_good (entries_block kind number entries) number kind (length entries) size ≡ true
  unfolding later_good entries_block
  entries_good =
      let content = flat entries in
      let n : eqb (word_at (block_bytes kind (length entries) number content) 2) number ≡ true = eq-eqb _ number (block_number kind (length entries) number content) in
      let k : eqb (byte_at (block_bytes kind (length entries) number content) 0) kind ≡ true = eq-eqb _ kind (block_kind kind (length entries) number content) in
      let e : eqb (byte_at (block_bytes kind (length entries) number content) 1) (length entries) ≡ true = eq-eqb _ _ (block_entries kind (length entries) number content) in
      and_make _ _ (and_make _ _ (and_make _ _ n k) e) (rw content_long at (block_tail kind (length entries) number content content_fits))

  pub entries_bytes : kind < 256 → length entries < 256 → number ≤ 65535 → ((i : ℕ) → i < length entries → AreBytes (get_or entries i [])) →
      AreBytes (entries_block kind number entries)
  unfolding entries_block
  entries_bytes h h' h'' each = block_bytes_lem kind (length entries) number (flat entries) content_fits h h' h'' (flat_bytes entries each)
