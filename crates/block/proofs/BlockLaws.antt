-- Laws of one block: its label, its entries, and the test of row 5.
-- Assumes nothing.
use Prim.Native.Nat.{ℕ, ◌+◌, ◌-◌, ◌*◌, ◌≤◌, ◌<◌}
use mathlib.Core.Path.{◌≡◌, ◌∙◌}
use mathlib.Core.Bool.{Bool, true, false}
use lib.Dec.{leb}
use native.Mathlib.Omega.{arith}
use borrow.Author.Tests.{le-leb, lt-leb}
use Rattle.lfa.specs.File.{Bytes, part_of, all_zero, block_of, link_blocks, entries_in, later_good, sound_block, block_good, links_of, prefixes_of}
use Rattle.block.specs.Head.{label_good}

-- ---- one block of a file, and its entries

pub entries_few : (each total j r : ℕ) → r ≡ entries_in each total j → r ≤ each
unfolding entries_in
entries_few each total j r e = omega arith

-- a link block, and a prefix block
module _ (b block : Bytes) (links prefixes i blocks n : ℕ) (r : Bool) (cut : block ≡ block_of b i) (e : blocks ≡ link_blocks links) where
  pub links_sound : i ≤ blocks → n ≡ entries_in 84 links (i - 1) →
      r ≡ later_good block i 2 n 6 → r ≡ sound_block links prefixes i (block_of b i)
  unfolding sound_block
  links_sound h f g =
      let k : leb i (link_blocks links) ≡ true = le-leb i (link_blocks links) (omega arith) in
      g ∙ rw (cut, f, sound_block, k)

  pub prefixes_sound : blocks < i → n ≡ entries_in 14 prefixes (i - 1 - blocks) →
      r ≡ later_good block i 3 n 34 → r ≡ sound_block links prefixes i (block_of b i)
  unfolding sound_block
  prefixes_sound h f g =
      let k : leb i (link_blocks links) ≡ false = lt-leb i (link_blocks links) (omega arith) in
      g ∙ rw (cut, f, sound_block, k, e)

-- ---- labels

-- a block with another label, and a block with this one
module _ (b : Bytes) (number kind entries size : ℕ) where
  pub later_other : label_good b number kind entries ≡ false → false ≡ later_good b number kind entries size
  unfolding later_good label_good
  later_other e = rw (later_good, e)

  pub later_labelled : label_good b number kind entries ≡ true → all_zero (part_of b (4 + size * entries) (510 - (4 + size * entries))) ≡ later_good b number kind entries size
  unfolding later_good label_good
  later_labelled e = let k : 510 - (4 + size * entries) ≡ 506 - size * entries = omega arith in rw (later_good, e, k)

-- the test of row 5, with the numbers that the head holds
pub sound_good : (b : Bytes) (links prefixes i : ℕ) (r : Bool) → links ≡ links_of b → prefixes ≡ prefixes_of b → r ≡ sound_block links prefixes i (block_of b i) → r ≡ block_good b i
unfolding block_good
sound_good b links prefixes i r l p e = rw (l, p) at e
