-- Where the entries of prefixes stand. The code finds a place by division, or from the place before; each is `place_in`, it lies inside
-- the file, and what stands there is the entry of its prefix.
-- Assumes nothing.
use Prim.Native.Nat.{ℕ, ◌+◌, ◌*◌, ◌/◌, ◌%◌, ◌≤◌}
use mathlib.Core.Path.{◌≡◌, ◌∙◌}
use mathlib.Core.Bool.{true, false}
use mathlib.Core.Logic.{◌⊎◌, inl, inr}
use native.Mathlib.Omega.{arith}
use lib.Dec.{eqb}
use borrow.Author.Tests.{eqb-true, eqb-false}
use Rattle.lfa.proofs.Laws.Test.{decide}
use lib.ListN.{length}
use Rattle.lfa.specs.File.{Bytes, part_of, ceil, link_blocks, prefix_blocks, blocks_needed, links_of, prefix_entry}
use Rattle.network_file.specs.Entry.{place_in, next_place, EntryAt}

-- The place by division, as `entries::prefix_entry` finds it: the blocks of links stand between the head and the first block of prefixes.
pub place_found : (links p : ℕ) {blocks : ℕ} → blocks ≡ link_blocks links → 512 * (1 + blocks + p / 14) + 4 + 34 * (p % 14) ≡ place_in links p
unfolding place_in
place_found links p e = rw e

-- The place after that of prefix p. 14 entries fill a block up to its byte 480, so the next one stands behind the label of the next
-- block where the place behind this one is such a byte, and else directly behind it.
module _ (links p place : ℕ) (is : place ≡ place_in links p) where
  place_block : (place + 34) % 512 ≡ 480 → place + 34 + 36 ≡ place_in links (p + 1)
  unfolding place_in
  place_block h = omega arith

  place_behind : ((place + 34) % 512 ≡ 480 → ⊥) → place + 34 ≡ place_in links (p + 1)
  unfolding place_in
  place_behind h =
      let last : p % 14 ≡ 13 → ⊥ = λ q. h (full (omega arith)) in
      omega arith
    where
      full : place + 34 ≡ 512 * (1 + link_blocks links + p / 14) + 480 → (place + 34) % 512 ≡ 480
      full e = rw e (rest (1 + link_blocks links + p / 14))
        where
          rest : (k : ℕ) → (512 * k + 480) % 512 ≡ 480
          rest k = omega arith

  pub place_next : {r : ℕ} → r ≡ next_place 34 14 place → r ≡ place_in links (p + 1)
  place_next q = q ∙ go (decide (eqb ((place + 34) % 512) 480))
    where
      go : (eqb ((place + 34) % 512) 480 ≡ true) ⊎ (eqb ((place + 34) % 512) 480 ≡ false) → next_place 34 14 place ≡ place_in links (p + 1)
      go (inl t) = rw (t, next_place) (place_block (eqb-true ((place + 34) % 512) 480 t))
      go (inr f) = rw (f, next_place) (place_behind (eqb-false ((place + 34) % 512) 480 f))

  pub place_small : links ≤ 128 → p ≤ 128 → place ≤ 6656
  unfolding place_in link_blocks ceil
  place_small few h = omega arith

-- The entry lies inside the file: its block is below the number of blocks needed, and within the block it ends before the check.
pub place_inside : (b : Bytes) (place p : ℕ) → EntryAt b place p → place + 34 ≤ length b
unfolding place_in blocks_needed link_blocks prefix_blocks ceil
place_inside b place p e = omega (arith, e.sized.whole, e.in_file, e.at_place)

-- what stands there is the entry of prefix p
pub place_there : (b : Bytes) (place p : ℕ) {e : Bytes} → place ≡ place_in (links_of b) p → e ≡ part_of b place 34 → e ≡ prefix_entry b p
unfolding place_in prefix_entry
place_there b place p is q = q ∙ rw is
