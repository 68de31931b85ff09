-- The written file cut up again: its length, its blocks, and the entry of each link and of each prefix.
-- Assumes nothing.
use Rattle.std.specs.Prelude.{ℕ, ◌+◌, ◌*◌, ◌/◌, ◌%◌, ◌≤◌, ◌<◌, ◌≡◌, get_or, length}
use Rattle.std.proofs.Math.Path.{sym, ap}
use Rattle.std.proofs.Common.{◌∙◌}
use mathlib.Core.List.Memᴰ
use mathlib.Core.List.{[], append-nil}
use native.Mathlib.Omega.{arith}
use Rattle.lfa.specs.Network.{link, Network}
use Rattle.lfa.specs.File.{Bytes, part_of, blocks_in, block_of, ceil, link_blocks, prefix_blocks, blocks_needed, link_entry, prefix_entry, entries_in}
use Rattle.lfa.specs.FileOf.{word_bytes, head_block, link_bytes, prefix_bytes, link_block, prefix_block, blocks_of, file_of, LinkWithin, PrefixWithin, WithinLimits}
use Rattle.lfa.proofs.Laws.Chunks.{EachLong, part_of_part, length_flat, part_flat, group_count, group_at, group_each}
use Rattle.lfa.proofs.Laws.List.{get_d_in}
use Rattle.lfa.proofs.Laws.File.WrittenBlock.{block_long, entries_long, entry_part}
use Rattle.lfa.proofs.Laws.File.WrittenEntry.{link_long, prefix_long}
use Rattle.lfa.proofs.Laws.File.WrittenBlocks.{link_blocks_for, prefix_blocks_for, blocks_for, head_content, link_entries, prefix_entries, links_back, blocks_long, link_block_at, prefix_block_at, each_block}

-- ---- networks within the limits, by number

module _ (net : Network) (within : WithinLimits net) where
  pub link_within_at : (k a b ab ba : ℕ) → k < length net.links → get_or net.links k (link 0 0 0 0) ≡ link a b ab ba → LinkWithin net.routers a b ab ba
  link_within_at k a b ab ba h e = within.link_within (Memᴰ.cast (sym e) (get_d_in net.links k (link 0 0 0 0) h))

  pub prefix_within_at : (k : ℕ) → k < length net.prefixes → PrefixWithin net.routers (get_or net.prefixes k [])
  prefix_within_at k h = within.prefix_within (get_d_in net.prefixes k [] h)

-- What follows needs no more of the network than that the attachments of each prefix fit into its entry.
abbrev pub FewAttached : Network → Type 0
FewAttached net = (k : ℕ) → k < length net.prefixes → length (get_or net.prefixes k []) ≤ 8

pub limits_few : (net : Network) → WithinLimits net → FewAttached net
limits_few net within k h = (prefix_within_at net within k h).few

-- ---- the entries of a block

module _ (net : Network) (few : FewAttached net) where
  -- link block j
  pub links_count : (j : ℕ) → length (link_entries net j) ≡ entries_in 84 (length net.links) j
  unfolding entries_in
  links_count j = group_count link_bytes net.links (link 0 0 0 0) 84 j

  pub links_long : (j : ℕ) → EachLong 6 (link_entries net j)
  links_long j = group_each link_bytes net.links (link 0 0 0 0) 84 j (λ b. length b ≡ 6) (λ k h. link_long (get_or net.links k (link 0 0 0 0)))

  pub links_fit_lem : (j : ℕ) → 6 * length (link_entries net j) ≤ 506
  unfolding entries_in
  links_fit_lem j = omega (arith, links_count j)

  -- prefix block j
  pub prefixes_count : (j : ℕ) → length (prefix_entries net j) ≡ entries_in 14 (length net.prefixes) j
  unfolding entries_in
  prefixes_count j = group_count prefix_bytes net.prefixes [] 14 j

  pub prefixes_long : (j : ℕ) → EachLong 34 (prefix_entries net j)
  prefixes_long j = group_each prefix_bytes net.prefixes [] 14 j (λ b. length b ≡ 34) (λ k h. prefix_long (get_or net.prefixes k []) (few k h))

  pub prefixes_fit : (j : ℕ) → 34 * length (prefix_entries net j) ≤ 506
  unfolding entries_in
  prefixes_fit j = omega (arith, prefixes_count j)

  -- ---- the blocks of the file

  pub head_long : length (head_block net) ≡ 512
  unfolding head_block word_bytes
  head_long = block_long 1 0 0 (head_content net) (omega arith)

  pub link_block_long : (j : ℕ) → length (link_block net j) ≡ 512
  unfolding link_block
  link_block_long j = entries_long 2 (1 + j) 6 (link_entries net j) (links_long j) (links_fit_lem j)

  prefix_block_long : (j : ℕ) → length (prefix_block net j) ≡ 512
  unfolding prefix_block
  prefix_block_long j = entries_long 3 (1 + link_blocks_for net + j) 34 (prefix_entries net j) (prefixes_long j) (prefixes_fit j)

  blocks_each_long : EachLong 512 (blocks_of net)
  blocks_each_long i h = each_block net (λ i b. length b ≡ 512) head_long (λ j k. link_block_long j) (λ j k. prefix_block_long j) i (omega (arith, blocks_long net))

  pub file_long : length (file_of net) ≡ 512 * blocks_for net
  unfolding file_of
  file_long = omega (arith, length_flat 512 (blocks_of net) blocks_each_long, blocks_long net)

  -- number of blocks
  pub blocks_back : blocks_in (file_of net) ≡ blocks_for net
  unfolding blocks_in
  blocks_back = omega (arith, file_long)

  -- Block i of the file is the block that was written as number i: every block has 512 bytes, so cutting by 512 finds the same places.
  pub block_back : (i : ℕ) → i < blocks_for net → block_of (file_of net) i ≡ get_or (blocks_of net) i []
  unfolding block_of part_of file_of
  block_back i h = rw append-nil at (part_flat 512 (blocks_of net) [] blocks_each_long i (omega (arith, blocks_long net)))

  -- ---- the entries of the file

  -- n bytes at offset o of block i
  pub part_of_block : (i o n : ℕ) → i < blocks_for net → o + n ≤ 512 → part_of (file_of net) (512 * i + o) n ≡ part_of (get_or (blocks_of net) i []) o n
  unfolding part_of block_of
  part_of_block i o n h k = sym (part_of_part (file_of net) (512 * i) 512 o n k) ∙ ap (λ (b : Bytes). part_of b o n) (block_back i h)

  link_block_in_lem : (k : ℕ) → k < length net.links → k / 84 < link_blocks_for net
  unfolding link_blocks ceil
  link_block_in_lem k h = omega arith

  prefix_block_in_lem : (k : ℕ) → k < length net.prefixes → k / 14 < prefix_blocks_for net
  unfolding prefix_blocks ceil
  prefix_block_in_lem k h = omega arith

  link_block_needed : (j : ℕ) → j < link_blocks_for net → 1 + j < blocks_for net
  unfolding blocks_needed
  link_block_needed j h = omega arith

  prefix_block_needed : (j : ℕ) → j < prefix_blocks_for net → 1 + link_blocks_for net + j < blocks_for net
  unfolding blocks_needed
  prefix_block_needed j h = omega arith

  link_block_part : (j i : ℕ) → i < 84 → 84 * j + i < length net.links → part_of (link_block net j) (4 + 6 * i) 6 ≡ link_bytes (get_or net.links (84 * j + i) (link 0 0 0 0))
  unfolding link_block entries_in
  link_block_part j i h k =
      entry_part 2 (1 + j) 6 (link_entries net j) (links_long j) (links_fit_lem j) i (omega (arith, links_count j))
      ∙ group_at link_bytes net.links (link 0 0 0 0) 84 j i h k

  prefix_block_part : (j i : ℕ) → i < 14 → 14 * j + i < length net.prefixes → part_of (prefix_block net j) (4 + 34 * i) 34 ≡ prefix_bytes (get_or net.prefixes (14 * j + i) [])
  unfolding prefix_block entries_in
  prefix_block_part j i h k =
      entry_part 3 (1 + link_blocks_for net + j) 34 (prefix_entries net j) (prefixes_long j) (prefixes_fit j) i (omega (arith, prefixes_count j))
      ∙ group_at prefix_bytes net.prefixes [] 14 j i h k

  -- Where the reader looks for link k there stand the bytes of link k: its block is 1 + k / 84, its place in the block is k % 84,
  -- and element k % 84 of the links from 84 × (k / 84) on is element k of all.
  pub link_entry_back : (k : ℕ) → k < length net.links → link_entry (file_of net) k ≡ link_bytes (get_or net.links k (link 0 0 0 0))
  unfolding link_entry
  link_entry_back k h =
      let j = k / 84 in
      let i = k % 84 in
      let blocks : j < link_blocks_for net = link_block_in_lem k h in
      let places : 84 * (k / 84) + k % 84 ≡ k = omega arith in
      let offset : 512 * (1 + k / 84) + 4 + 6 * (k % 84) ≡ 512 * (1 + j) + (4 + 6 * i) = omega arith in
      rw offset (
      part_of_block (1 + j) (4 + 6 * i) 6 (link_block_needed j blocks) (omega arith)
      ∙ ap (λ (b : Bytes). part_of b (4 + 6 * i) 6) (link_block_at net j blocks)
      ∙ link_block_part j i (omega (arith)) (omega arith)
      ∙ ap (λ (p : ℕ). link_bytes (get_or net.links p (link 0 0 0 0))) places)

  -- the same for prefix k, by 14s of 34 bytes, after the link blocks
  pub prefix_entry_back : (k : ℕ) → k < length net.prefixes → prefix_entry (file_of net) k ≡ prefix_bytes (get_or net.prefixes k [])
  unfolding prefix_entry
  prefix_entry_back k h =
      let j = k / 14 in
      let i = k % 14 in
      let blocks : j < prefix_blocks_for net = prefix_block_in_lem k h in
      let places : 14 * (k / 14) + k % 14 ≡ k = omega arith in
      let offset : 512 * (1 + link_blocks_for net + k / 14) + 4 + 34 * (k % 14) ≡ 512 * (1 + link_blocks_for net + j) + (4 + 34 * i) = omega arith in
      rw (links_back net, offset) (
      part_of_block (1 + link_blocks_for net + j) (4 + 34 * i) 34 (prefix_block_needed j blocks) (omega arith)
      ∙ ap (λ (b : Bytes). part_of b (4 + 34 * i) 34) (prefix_block_at net j blocks)
      ∙ prefix_block_part j i (omega arith) (omega arith)
      ∙ ap (λ (p : ℕ). prefix_bytes (get_or net.prefixes p [])) places)
