-- The entries that can be named are those of an accepted file, up to its counts, and each lies inside the file.
-- Assumes nothing.
use Prim.Native.Nat.{ℕ, ◌+◌, ◌*◌, ◌/◌, ◌%◌, ◌≤◌, ◌<◌, min}
use mathlib.Core.Path.{◌≡◌, refl, sym, ap, ◌∙◌}
use mathlib.Core.Option.{Option, none, some}
use mathlib.Core.List.{[]}
use native.Mathlib.Omega.{arith}
use borrow.Author.Tests.{lt-ltb}
use Rattle.lfa.specs.File.{Bytes, word_at, links_of, prefixes_of, ceil, link_blocks, link_entry, prefix_entry}
use Rattle.lfa.specs.Refusal.{file_refusal, FileRow, Decided}
use Rattle.lfa.specs.Answer.{part_if, link_part, prefix_part}
use Rattle.lfa.proofs.Laws.Accepted.{no_part, no_link_part, no_prefix_part}
use Rattle.block.specs.Judged.{Sized}
use Rattle.network_file.specs.Entry.{EntryAt, place_in}
use Rattle.network_file.proofs.PlaceLaws.{place_found}
use Rattle.network_file.proofs.LoadLaws.{accepted_sized}
use Rattle.entries.specs.Count.{count_loaded}

-- the links that the head counts are few
pub links_few : (b : Bytes) (links : ℕ) → links ≡ word_at b 6 → Sized b → links ≤ 128
unfolding links_of
links_few b links q s = omega (arith, s.few_links)

-- the quotient rounded up
pub blocks_are : (links : ℕ) {blocks : ℕ} → blocks ≡ links / 84 + min 1 (links % 84) → blocks ≡ link_blocks links
unfolding link_blocks ceil
blocks_are links e = omega arith

module _ (b : Bytes) where
  -- the counts of an accepted file are those of its head, and those of any other are 0
  pub count_accepted : (at : ℕ) → none ≡ file_refusal b → word_at b at ≡ count_loaded b at
  unfolding count_loaded
  count_accepted at e = sym (rw (count_loaded, sym e))

  pub count_refused : (at : ℕ) {d : Decided FileRow} → some d ≡ file_refusal b → 0 ≡ count_loaded b at
  unfolding count_loaded
  count_refused at e = sym (rw (count_loaded, sym e))

  -- a file with a link or a prefix in it is accepted
  counted_accepted : (at k : ℕ) → k < count_loaded b at → none ≡ file_refusal b
  counted_accepted at k h = go (file_refusal b) refl
    where
      go : (o : Option (Decided FileRow)) → file_refusal b ≡ o → none ≡ file_refusal b
      go none p = sym p
      go (some d) p = absurd (omega (arith, count_refused at (sym p)))

  module _ (k : ℕ) where
    -- a link number below the count
    module _ (h : k < count_loaded b 6) where
      pub link_sized : Sized b × (k < links_of b)
      unfolding links_of
      link_sized = let e = counted_accepted 6 k h in (accepted_sized b e, omega (arith, count_accepted 6 e))

      pub is_link_part : link_entry b k ≡ link_part b k
      unfolding link_part part_if
      is_link_part = sym (rw (sym (counted_accepted 6 k h), lt-ltb k (links_of b) link_sized.1))

    -- a prefix number below the count
    module _ (h : k < count_loaded b 8) where
      pub prefix_sized : Sized b × (k < prefixes_of b)
      unfolding prefixes_of
      prefix_sized = let e = counted_accepted 8 k h in (accepted_sized b e, omega (arith, count_accepted 8 e))

      -- and its entry stands where the code looks for it
      pub prefix_there : {links blocks : ℕ} → links ≡ word_at b 6 → blocks ≡ link_blocks links →
          EntryAt b (512 * (1 + blocks + k / 14) + 4 + 34 * (k % 14)) k
      unfolding links_of
      prefix_there {links} q e =
          record { sized = prefix_sized.0; in_file = prefix_sized.1; at_place = place_found links k e ∙ ap (λ (n : ℕ). place_in n k) q }

      pub is_prefix_part : prefix_entry b k ≡ prefix_part b k
      unfolding prefix_part part_if
      is_prefix_part = sym (rw (sym (counted_accepted 8 k h), lt-ltb k (prefixes_of b) prefix_sized.1))

    -- numbers too large: of a refused file, whose counts are 0, each number is
    pub no_link : count_loaded b 6 ≤ k → link_part b k ≡ []
    unfolding links_of
    no_link h = go (file_refusal b) refl
      where
        go : (o : Option (Decided FileRow)) → file_refusal b ≡ o → link_part b k ≡ []
        go none p = no_link_part b k (omega (arith, count_accepted 6 (sym p)))
        go (some d) p = (no_part b d k p).0

    pub no_prefix : count_loaded b 8 ≤ k → prefix_part b k ≡ []
    unfolding prefixes_of
    no_prefix h = go (file_refusal b) refl
      where
        go : (o : Option (Decided FileRow)) → file_refusal b ≡ o → prefix_part b k ≡ []
        go none p = no_prefix_part b k (omega (arith, count_accepted 8 (sym p)))
        go (some d) p = (no_part b d k p).1
