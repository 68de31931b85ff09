-- The tests of rows 1 to 9 pass on the written file, row by row.
-- Assumes nothing.
use Rattle.std.specs.Prelude.{ℕ, ◌+◌, ◌-◌, ◌%◌, ◌≤◌, ◌<◌, ◌≡◌, []}
use Rattle.std.proofs.Math.Path.{refl, ap}
use Rattle.std.proofs.Common.{◌∙◌}
use Rattle.std.proofs.Math.Bool.{true, not}
use native.Mathlib.Omega.{arith}
use Rattle.std.proofs.Math.ListN.{get_or, length}
use borrow.Author.Tests.{le-leb, lt-leb, eq-eqb, ne_eqb}
use Rattle.lfa.specs.Lists.{flat}
use Rattle.lfa.specs.Network.{Link, link, Network}
use Rattle.lfa.specs.File.{byte_at, word_at, part_of, all_zero, blocks_in, check_of, links_of, prefixes_of, ceil, link_blocks, prefix_blocks, blocks_needed, link_in, link_of, prefix_in, prefix_of, length_good, check_good, head_good, block_count_good, sound_block, block_good, sound_link, link_good, join_same, link_new, prefix_good, routers_new}
use Rattle.lfa.specs.FileOf.{word_bytes, pad, block_bytes, head_block, link_block, prefix_block, blocks_of, file_of, WithinLimits}
use Rattle.lfa.proofs.Laws.File.RowFacts.{same_gives}
use Rattle.lfa.proofs.Laws.Test.{not_make}
use Rattle.lfa.proofs.Laws.List.{every_make}
use Rattle.lfa.proofs.Laws.File.WrittenBlock.{block_tail, block_check, entries_check, entries_good}
use Rattle.lfa.proofs.Laws.File.WrittenEntry.{link_back, link_sound, prefix_back, prefix_sound, prefix_new}
use Rattle.lfa.proofs.Laws.File.WrittenBlocks.{link_blocks_for, prefix_blocks_for, blocks_for, head_content, link_entries, prefix_entries, routers_back, links_back, prefixes_back, each_block}
use Rattle.lfa.proofs.Laws.File.WrittenFile.{FewAttached, limits_few, link_within_at, prefix_within_at, links_count, links_long, links_fit_lem, prefixes_count, prefixes_long, prefixes_fit, file_long, blocks_back, block_back, part_of_block, link_entry_back, prefix_entry_back}

module _ (net : Network) (few : FewAttached net) where
  -- ---- links and prefixes read back

  pub link_of_lem : (k : ℕ) → k < length net.links → link_of (file_of net) k ≡ get_or net.links k (link 0 0 0 0)
  unfolding link_of
  link_of_lem k h = ap link_in (link_entry_back net few k h) ∙ link_back (get_or net.links k (link 0 0 0 0))

  pub prefix_of_lem : (k : ℕ) → k < length net.prefixes → prefix_of (file_of net) k ≡ get_or net.prefixes k []
  unfolding prefix_of
  prefix_of_lem k h = ap prefix_in (prefix_entry_back net few k h) ∙ prefix_back (get_or net.prefixes k []) (few k h)

module _ (net : Network) (within : WithinLimits net) where
  few : FewAttached net
  few = limits_few net within

  -- ---- row 1: the length is 512 × the blocks needed, which are 1 to 13

  pub row1 : length_good (file_of net) ≡ true
  unfolding length_good blocks_needed link_blocks prefix_blocks ceil
  row1 =
      let long = file_long net few in
      let some : length (file_of net) ≡ 0 → ⊥ = λ e. omega arith in
      let whole : length (file_of net) % 512 ≡ 0 = omega arith in
      let most : length (file_of net) ≤ 6656 = omega (arith, within.few_links, within.few_prefixes) in
      rw (ne_eqb (length (file_of net)) 0 some, eq-eqb (length (file_of net) % 512) 0 whole, le-leb (length (file_of net)) 6656 most)

  -- ---- row 2: each kind of block carries its own check

  head_check : check_of (head_block net) ≡ word_at (head_block net) 510
  unfolding head_block word_bytes
  head_check = block_check 1 0 0 (head_content net) (omega arith)

  link_check : (j : ℕ) → check_of (link_block net j) ≡ word_at (link_block net j) 510
  unfolding link_block
  link_check j = entries_check 2 (1 + j) 6 (link_entries net j) (links_long net few j) (links_fit_lem net few j)

  prefix_check : (j : ℕ) → check_of (prefix_block net j) ≡ word_at (prefix_block net j) 510
  unfolding prefix_block
  prefix_check j = entries_check 3 (1 + link_blocks_for net + j) 34 (prefix_entries net j) (prefixes_long net few j) (prefixes_fit net few j)

  pub row2 : (i : ℕ) → i < blocks_in (file_of net) → check_good (file_of net) i ≡ true
  unfolding check_good
  row2 i h =
      let k : i < blocks_for net = rw (blocks_back net few) at h in
      rw (block_back net few i k) (eq-eqb _ _ (each_block net (λ i b. check_of b ≡ word_at b 510) head_check (λ j k. link_check j) (λ j k. prefix_check j) i k))

  -- ---- row 3: the fields stand in the open; what follows them is the head's zero padding

  head_fields : (byte_at (file_of net) 0 ≡ 1) × (byte_at (file_of net) 1 ≡ 0) × (word_at (file_of net) 2 ≡ 0) × (byte_at (file_of net) 5 ≡ 0)
  unfolding word_at byte_at file_of blocks_of head_block block_bytes word_bytes pad flat
  head_fields = (refl, refl, refl, refl)

  head_tail : all_zero (part_of (head_block net) 10 500) ≡ true
  unfolding head_block word_bytes
  head_tail = block_tail 1 0 0 (head_content net) (omega arith)

  head_rest : all_zero (part_of (file_of net) 10 500) ≡ true
  unfolding blocks_of blocks_needed
  head_rest = rw (part_of_block net few 0 10 500 (omega arith) (omega arith)) head_tail

  pub row3 : head_good (file_of net) ≡ true
  unfolding head_good
  row3 =
      let f = head_fields in
      rw (eq-eqb (byte_at (file_of net) 0) 1 f.0, eq-eqb (byte_at (file_of net) 1) 0 f.1, eq-eqb (word_at (file_of net) 2) 0 f.2, eq-eqb (byte_at (file_of net) 5) 0 f.3)
      (rw (routers_back net, le-leb 1 net.routers within.some_routers, le-leb net.routers 64 within.few_routers)
      (rw (links_back net, le-leb (length net.links) 128 within.few_links, prefixes_back net, le-leb (length net.prefixes) 128 within.few_prefixes) head_rest))

  -- ---- row 4

  pub row4 : block_count_good (file_of net) ≡ true
  unfolding block_count_good
  row4 = rw (links_back net, prefixes_back net) (eq-eqb _ _ (blocks_back net few))

  -- ---- row 5: link block j is number 1 + j, prefix block j comes after the link blocks; both carry their number, kind, entries and zero tail

  link_later : (j : ℕ) → j < link_blocks_for net → sound_block (length net.links) (length net.prefixes) (1 + j) (link_block net j) ≡ true
  unfolding sound_block link_block
  link_later j h =
      let s : 1 + j - 1 ≡ j = omega arith in
      let n = links_count net few j in
      rw (le-leb (1 + j) (link_blocks_for net) (omega arith), sound_block, s, ← n)
      (entries_good 2 (1 + j) 6 (link_entries net j) (links_long net few j) (links_fit_lem net few j))

  prefix_later : (j : ℕ) → j < prefix_blocks_for net → sound_block (length net.links) (length net.prefixes) (1 + link_blocks_for net + j) (prefix_block net j) ≡ true
  unfolding sound_block prefix_block
  prefix_later j h =
      let first = link_blocks_for net in
      let s : 1 + first + j - 1 - first ≡ j = omega arith in
      let n = prefixes_count net few j in
      rw (lt-leb (1 + first + j) first (omega arith), sound_block, s, ← n)
      (entries_good 3 (1 + first + j) 34 (prefix_entries net j) (prefixes_long net few j) (prefixes_fit net few j))

  pub row5 : (i : ℕ) → 1 ≤ i → i < blocks_in (file_of net) → block_good (file_of net) i ≡ true
  unfolding block_good
  row5 i h k =
      let m : i < blocks_for net = rw (blocks_back net few) at k in
      rw (links_back net, prefixes_back net, block_back net few i m)
      (each_block net (λ i b. 1 ≤ i → sound_block (length net.links) (length net.prefixes) i b ≡ true)
      (λ no. absurd (omega arith)) (λ j k l. link_later j k) (λ j k l. prefix_later j k) i m h)

  -- ---- row 6: link k reads back as link k of the network, which is within the limits

  pub row6 : (k : ℕ) → k < links_of (file_of net) → link_good (file_of net) k ≡ true
  unfolding link_good
  row6 k h =
      let m : k < length net.links = rw (links_back net) at h in
      rw (routers_back net, link_of_lem net few k m) (go m (get_or net.links k (link 0 0 0 0)) refl)
    where
      go : k < length net.links → (l : Link) → get_or net.links k (link 0 0 0 0) ≡ l → sound_link net.routers l ≡ true
      go m (link a b ab ba) e = link_sound net.routers a b ab ba (link_within_at net within k a b ab ba m e)

  -- ---- row 7: links j and k read back as those of the network, which has no parallel links

  pub row7 : (k : ℕ) → k < links_of (file_of net) → link_new (file_of net) k ≡ true
  unfolding link_new
  row7 k h =
      let m : k < length net.links = rw (links_back net) at h in
      rw (link_of_lem net few k m) (every_make _ k (λ j l. new j l m))
    where
      new : (j : ℕ) → j < k → k < length net.links → not (join_same (get_or net.links k (link 0 0 0 0)) (link_of (file_of net) j)) ≡ true
      new j l m = rw (link_of_lem net few j (omega arith)) (not_make _ (λ e. within.no_parallel j k l m (same_gives (get_or net.links k (link 0 0 0 0)) (get_or net.links j (link 0 0 0 0)) e)))

  -- ---- row 8

  pub row8 : (k : ℕ) → k < prefixes_of (file_of net) → prefix_good (file_of net) k ≡ true
  unfolding prefix_good
  row8 k h =
      let m : k < length net.prefixes = rw (prefixes_back net) at h in
      rw (routers_back net, prefix_entry_back net few k m) (prefix_sound net.routers (get_or net.prefixes k []) (prefix_within_at net within k m))

  -- ---- row 9

  pub row9 : (k : ℕ) → k < prefixes_of (file_of net) → routers_new (file_of net) k ≡ true
  unfolding routers_new
  row9 k h =
      let m : k < length net.prefixes = rw (prefixes_back net) at h in
      rw (prefix_entry_back net few k m) (prefix_new net.routers (get_or net.prefixes k []) (prefix_within_at net within k m))
