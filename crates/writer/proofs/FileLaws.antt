-- Blocks put one after the other into the buffer of zeros.
-- Assumes nothing.
use Prim.Native.Nat.{ℕ, ◌+◌, ◌-◌, ◌*◌, ◌≤◌, ◌<◌}
use mathlib.Core.Path.{◌≡◌, refl, sym, ap, subst, ◌∙◌}
use mathlib.Core.List.{[], ◌++◌, map, append_assoc, append-nil}
use native.Mathlib.Omega.{arith}
use lib.ListN.{length, take, drop, replicate, length-append, length-replicate, replicate-append-replicate}
use lib.Seq.{take_at, drop_at, length-take-le}
use borrow.Rule.Slice.PartMut.{mid_of, put_mid, Post-is}
use Rattle.lfa.specs.Lists.{count_up, below, flat}
use Rattle.lfa.specs.File.{Bytes}
use Rattle.lfa.specs.FileOf.{pad}
use Rattle.writer.specs.Put.{put_at}
use Rattle.writer.specs.Block.{ZeroBlock}
use Rattle.writer.specs.File.{Holds}
use Rattle.writer.proofs.PutLaws.{put_length, put_padded}
use Rattle.writer.proofs.EntryLaws.{flat_more}

-- a part lent and handed back is a put
mid_put : (start end : ℕ) (file part : Bytes) → start + length part ≡ end → put_mid start (end - start) file part ≡ put_at start part file
unfolding put_at
mid_put start end file part e = rw (Post-is start end file (omega arith), e)

take_zeros : (k n : ℕ) → k ≤ n → take {A = ℕ} k (replicate n 0) ≡ replicate k 0
take_zeros k n h =
    let e : n ≡ k + (n - k) = omega arith in
    rw (e, ← replicate-append-replicate {A = ℕ} k (n - k) 0)
    (take_at (replicate k 0) (replicate (n - k) 0) k (length-replicate {A = ℕ} k 0))

-- after the bytes there is a block of zeros
pub zero_part : (bytes file : Bytes) (start end : ℕ) → Holds bytes file → length bytes ≡ start → start + 512 ≡ end → end ≤ 6656 →
    ZeroBlock (mid_of start (end - start) file)
unfolding pad
zero_part bytes file start end h long e fits =
    let size : end - start ≡ 512 = omega arith in
    let zeros : drop start file ≡ replicate (6656 - length bytes) 0 =
    rw h.0 (drop_at bytes (replicate (6656 - length bytes) 0) start long) in
    let is : take (end - start) (drop start file) ≡ replicate 512 0 =
    rw (size, zeros) (take_zeros 512 (6656 - length bytes) (omega arith)) in
    (is, rw is (length-replicate {A = ℕ} 512 0))

-- a block put there is part of the bytes
pub block_put : (bytes file part after : Bytes) (start end : ℕ) → Holds bytes file → length bytes ≡ start → start + 512 ≡ end → end ≤ 6656 →
    length part ≡ 512 → after ≡ put_mid start (end - start) file part → Holds (bytes ++ part) after
block_put bytes file part after start end h long e fits whole back =
    let put : after ≡ put_at start part file = back ∙ mid_put start end file part (omega arith) in (
      put ∙ ap (put_at start part) h.0 ∙ put_padded 6656 start bytes part long (omega arith),
      ap length put ∙ put_length start part file (omega (arith, h.1)) ∙ h.1,
    )

-- the first block, put into zeros
pub first_put : (block file part : Bytes) → Holds [] file → part ≡ block → length part ≡ length (mid_of 0 512 file) →
    Holds block (put_mid 0 512 file part)
first_put block file part h is same =
    let whole : length part ≡ 512 = same ∙ (zero_part [] file 0 512 h refl refl (omega arith)).1 in
    subst (λ (b : Bytes). Holds b (put_mid 0 512 file part)) is (block_put [] file part _ 0 512 h refl refl (omega arith) whole refl)

-- ---- blocks of one kind, after the blocks ahead of them in the file as it was lent

module _ (ahead : ℕ) (lent : Bytes) (block : ℕ → Bytes) where
  -- the blocks ahead, and the first j of this kind
  abbrev pub first_blocks : ℕ → Bytes
  first_blocks j = take (512 * ahead) lent ++ flat (map block (below j))

  -- the file holds them
  pub record Grown (j : ℕ) (file : Bytes) : Type 0 where
    pub long : length (first_blocks j) ≡ 512 * (ahead + j)
    pub holds : Holds (first_blocks j) file

  pub grown_none : ahead ≤ 13 → Holds (take (512 * ahead) lent) lent → Grown 0 lent
  unfolding below count_up flat
  grown_none few h = record {
    long = rw (append-nil (take (512 * ahead) lent)) (omega (arith, length-take-le (512 * ahead) lent (omega (arith, h.1))));
    holds = rw (append-nil (take (512 * ahead) lent)) h;
  }

  -- where the next of them goes
  abbrev place : ℕ → ℕ
  place j = 512 * (ahead + j)

  pub grown_zero : (j : ℕ) (file : Bytes) → Grown j file → ahead + j < 13 → ZeroBlock (mid_of (place j) (place j + 512 - place j) file)
  grown_zero j file g few = zero_part (first_blocks j) file (place j) (place j + 512) g.holds g.long refl (omega arith)

  pub grown_more : (j : ℕ) (file part : Bytes) → Grown j file → ahead + j < 13 → part ≡ block j →
      length part ≡ length (mid_of (place j) (place j + 512 - place j) file) →
      Grown (j + 1) (put_mid (place j) (place j + 512 - place j) file part)
  grown_more j file part g few is same =
      let whole : length part ≡ 512 = same ∙ (grown_zero j file g few).1 in
      let more : first_blocks j ++ part ≡ first_blocks (j + 1) =
      append_assoc (take (512 * ahead) lent) (flat (map block (below j))) part
      ∙ ap (λ (l : Bytes). take (512 * ahead) lent ++ l)
      (ap (λ (l : Bytes). flat (map block (below j)) ++ l) is ∙ sym (flat_more block j)) in
      let h = block_put (first_blocks j) file part _ (place j) (place j + 512) g.holds g.long refl (omega arith) whole refl in
      record { long = rw (← more) (omega (arith, length-append (first_blocks j) part, g.long)); holds = rw (← more) h }
