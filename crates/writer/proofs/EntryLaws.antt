-- Entries put one after the other, and a block put together from its label, its entries and its check.
-- Assumes nothing.
use Prim.Native.Nat.{ℕ, suc, ◌+◌, ◌-◌, ◌*◌, ◌/◌, ◌%◌, ◌≤◌, ◌<◌}
use mathlib.Core.Path.{◌≡◌, refl, sym, ap, ◌∙◌}
use mathlib.Core.List.{[], ◌∷◌, ◌++◌, map, append_assoc, append-nil}
use native.Mathlib.Omega.{arith}
use lib.ListN.{length, replicate, length-append, length-replicate, replicate-append-replicate}
use lib.Seq.{take_at, drop-append-add}
use Rattle.lfa.specs.Lists.{count_up, below, flat}
use Rattle.lfa.specs.File.{Bytes, check_of}
use Rattle.lfa.specs.FileOf.{word_bytes, pad, block_bytes}
use Rattle.lfa.proofs.Laws.Counting.{length_map_below, map_below_at}
use Rattle.lfa.proofs.Laws.Chunks.{length_flat}
use Rattle.lfa.proofs.Laws.File.Parts.{flat_append}
use Rattle.lfa.proofs.Laws.File.WrittenBlock.{front_bytes, front_long, check_front}
use Rattle.metric.proofs.Laws.List.{map_below_more}
use Rattle.writer.specs.Put.{put_at}
use Rattle.writer.specs.Block.{first_entries}
use Rattle.writer.proofs.PutLaws.{put_after, put_padded}

-- ---- entries of one size, one after the other

module _ (entry : ℕ → Bytes) where
  pub flat_more : (i : ℕ) → flat (map entry (below (i + 1))) ≡ flat (map entry (below i)) ++ entry i
  unfolding flat
  flat_more i = rw (map_below_more entry i, flat_append (map entry (below i)) (entry i ∷ []), append-nil)

  pub flat_long : (size i : ℕ) → ((k : ℕ) → k < i → length (entry k) ≡ size) → length (flat (map entry (below i))) ≡ size * i
  flat_long size i each =
      length_flat size (map entry (below i)) (λ k h.
      let m : k < i = omega (arith, length_map_below entry i) in
      ap length (map_below_at entry [] i k m) ∙ each k m)
      ∙ ap (λ (n : ℕ). size * n) (length_map_below entry i)

  -- the entry after the first i
  pub entry_put : (size at i : ℕ) (b : Bytes) → ((k : ℕ) → k < i + 1 → length (entry k) ≡ size) → at + size * (i + 1) ≤ length b →
      put_at (at + size * i) (entry i) (put_at at (flat (map entry (below i))) b) ≡ put_at at (flat (map entry (below (i + 1)))) b
  entry_put size at i b each h =
      let long = flat_long size i (λ k l. each k (omega arith)) in
      let next : size * (i + 1) ≡ size * i + size = omega arith in
      put_after at (at + size * i) (flat (map entry (below i))) (entry i) b (omega arith) (omega (arith, each i (omega arith)))
      ∙ ap (λ (l : Bytes). put_at at l b) (sym (flat_more i))

-- ---- padding

-- Padding within padding: bytes at the end may be padded too.
pub padded_twice : (n m : ℕ) (b x : Bytes) → length x ≤ m → length b + m ≤ n → pad n (b ++ x) ≡ pad n (b ++ pad m x)
unfolding pad
padded_twice n m b x h k =
    let zeros : Bytes = replicate (m - length x) 0 in
    let left : m - length x + (n - length (b ++ (x ++ zeros))) ≡ n - length (b ++ x) =
    omega (arith, length-append b (x ++ zeros), length-append x zeros, length-append b x, length-replicate {A = ℕ} (m - length x) 0) in
    rw (← left, ← replicate-append-replicate {A = ℕ} (m - length x) (n - length (b ++ (x ++ zeros))) 0) (
    sym (append_assoc (b ++ x) zeros (replicate (n - length (b ++ (x ++ zeros))) 0))
    ∙ ap (λ (l : Bytes). l ++ replicate (n - length (b ++ (x ++ zeros))) 0) (append_assoc b x zeros))

-- ---- a block

last_two : (front w : Bytes) → length front ≡ 510 → length w ≡ 2 → put_at 510 w (front ++ (0 ∷ 0 ∷ [])) ≡ front ++ w
unfolding put_at
last_two front w long two =
    let e : 510 + length w ≡ length front + 2 = omega arith in
    rw (take_at front (0 ∷ 0 ∷ []) 510 long, e, drop-append-add front (0 ∷ 0 ∷ []) 2) (ap (λ (l : Bytes). front ++ l) (append-nil w))

module _ (kind entries number : ℕ) where
  -- the label, in a block of zeros
  pub label_put : (entry : ℕ → Bytes) →
      put_at 0 (kind ∷ entries ∷ word_bytes number) (pad 512 []) ≡ pad 512 (first_entries kind entries number entry 0)
  unfolding first_entries word_bytes below count_up flat
  label_put entry = put_padded 512 0 [] (kind ∷ entries ∷ word_bytes number) refl (omega arith)

  module _ (entry : ℕ → Bytes) where
    front_size : (size i : ℕ) → ((k : ℕ) → k < i → length (entry k) ≡ size) →
        length (first_entries kind entries number entry i) ≡ 4 + size * i
    unfolding first_entries word_bytes
    front_size size i each = omega (arith, flat_long entry size i each)

    front_more : (i : ℕ) → first_entries kind entries number entry (i + 1) ≡ first_entries kind entries number entry i ++ entry i
    unfolding first_entries word_bytes
    front_more i = ap {B = Bytes} (λ l. kind ∷ entries ∷ word_bytes number ++ l) (flat_more entry i)

    -- One entry more: it is put where the padding starts. What is put may be the entry without zeros that it ends with.
    pub more_entries : (size i : ℕ) (used : Bytes) → ((k : ℕ) → k < i → length (entry k) ≡ size) → length used ≤ size →
        entry i ≡ pad size used →
        4 + size * (i + 1) ≤ 512 →
        put_at (4 + size * i) used (pad 512 (first_entries kind entries number entry i))
        ≡ pad 512 (first_entries kind entries number entry (i + 1))
    more_entries size i used each short is fits =
        let long = front_size size i each in
        let next : size * (i + 1) ≡ size * i + size = omega arith in
        put_padded 512 (4 + size * i) (first_entries kind entries number entry i) used long (omega arith)
        ∙ padded_twice 512 size (first_entries kind entries number entry i) used short (omega arith)
        ∙ ap (λ (l : Bytes). pad 512 (first_entries kind entries number entry i ++ l)) (sym is) ∙ ap (pad 512) (sym (front_more i))

  padded_front : (content : Bytes) → length content ≤ 506 →
      pad 512 (kind ∷ entries ∷ word_bytes number ++ content) ≡ front_bytes kind entries number content ++ (0 ∷ 0 ∷ [])
  unfolding pad word_bytes
  padded_front content h =
      let used = suc (suc (suc (suc (length content)))) in
      let left : 506 - length content + 2 ≡ 512 - used = omega arith in
      let zeros : replicate {A = ℕ} (512 - used) 0 ≡ replicate (506 - length content) 0 ++ (0 ∷ 0 ∷ []) =
      rw (← left) (sym (replicate-append-replicate {A = ℕ} (506 - length content) 2 0)) in
      ap {B = Bytes} (λ l. kind ∷ entries ∷ number % 256 ∷ number / 256 ∷ (content ++ l)) zeros
      ∙ ap {B = Bytes} (λ l. kind ∷ entries ∷ number % 256 ∷ number / 256 ∷ l)
      (sym (append_assoc content (replicate (506 - length content) 0) (0 ∷ 0 ∷ [])))

  -- A block of content and padding becomes the block that is written of it with its check in its last two bytes.
  pub sealed : (content : Bytes) → length content ≤ 506 →
      let block = pad 512 (kind ∷ entries ∷ word_bytes number ++ content) in
      put_at 510 (word_bytes (check_of block)) block ≡ block_bytes kind entries number content
  unfolding block_bytes
  sealed content h =
      let front = front_bytes kind entries number content in
      let long : length front ≡ 510 = front_long kind entries number content h in
      rw (padded_front content h, check_front front (0 ∷ 0 ∷ []) long)
      (last_two front (word_bytes (check_of front)) long (unfold word_bytes in refl))
