-- The list of blocks that `file_of` writes: the head, the link blocks, the prefix blocks; and the fields of the head read back.
-- Assumes nothing.
use Prim.Native.Nat.{ℕ, zero, suc, ◌+◌, ◌-◌, ◌*◌, ◌≤◌, ◌<◌}
use Rattle.std.specs.Prelude.{◌≡◌, refl, ◌⊎◌, true, false, ltb, get_or, length, take, drop}
use Rattle.std.proofs.Common.{◌∙◌, inl, inr, get_or-append-add}
use mathlib.Core.List.{List, [], ◌∷◌, ◌++◌, map}
use native.Mathlib.Omega.{arith}
use Rattle.std.proofs.Math.ListN.{length-append, get_or-append}
use borrow.Author.Tests.{ltb-true, ltb-false}
use Rattle.lfa.specs.Lists.{below, flat}
use Rattle.lfa.specs.Network.{Network}
use Rattle.lfa.specs.File.{Bytes, byte_at, word_at, routers_of, links_of, prefixes_of, link_blocks, prefix_blocks, blocks_needed}
use Rattle.lfa.specs.FileOf.{word_bytes, pad, block_bytes, head_block, link_bytes, prefix_bytes, link_block, prefix_block, blocks_of, file_of}
use Rattle.lfa.proofs.Laws.Test.{decide}
use Rattle.lfa.proofs.Laws.Counting.{length_map_below, map_below_at}
use Rattle.lfa.proofs.Laws.File.Bytes.{word_back}

-- ---- names for parts of what is written

abbrev pub link_blocks_for : Network → ℕ
link_blocks_for net = link_blocks (length net.links)

abbrev pub prefix_blocks_for : Network → ℕ
prefix_blocks_for net = prefix_blocks (length net.prefixes)

abbrev pub blocks_for : Network → ℕ
blocks_for net = blocks_needed (length net.links) (length net.prefixes)

-- the content of the head
abbrev pub head_content : Network → Bytes
head_content net = net.routers ∷ 0 ∷ word_bytes (length net.links) ++ word_bytes (length net.prefixes)

-- the entries of link block j and of prefix block j
abbrev pub link_entries : Network → ℕ → List Bytes
link_entries net j = map link_bytes (take 84 (drop (84 * j) net.links))

abbrev pub prefix_entries : Network → ℕ → List Bytes
prefix_entries net j = map prefix_bytes (take 14 (drop (14 * j) net.prefixes))

-- ---- the head reads back
-- The head's first ten bytes stand in the open, so each field is read by computing; a 16-bit one is put together again by `word_back`.

pub routers_back : (net : Network) → routers_of (file_of net) ≡ net.routers
unfolding routers_of byte_at file_of blocks_of head_block block_bytes word_bytes pad flat
routers_back net = refl

pub links_back : (net : Network) → links_of (file_of net) ≡ length net.links
unfolding links_of word_at byte_at file_of blocks_of head_block block_bytes word_bytes pad flat
links_back net = word_back (length net.links)

pub prefixes_back : (net : Network) → prefixes_of (file_of net) ≡ length net.prefixes
unfolding prefixes_of word_at byte_at file_of blocks_of head_block block_bytes word_bytes pad flat
prefixes_back net = word_back (length net.prefixes)

-- ---- the list of blocks

module _ (net : Network) where
  link_blocks_long : length (map (link_block net) (below (link_blocks_for net))) ≡ link_blocks_for net
  link_blocks_long = length_map_below (link_block net) (link_blocks_for net)

  pub blocks_long : length (blocks_of net) ≡ blocks_for net
  unfolding blocks_of blocks_needed
  blocks_long =
      let lb = map (link_block net) (below (link_blocks_for net)) in
      let pb = map (prefix_block net) (below (prefix_blocks_for net)) in
      omega (arith, link_blocks_long, length_map_below (prefix_block net) (prefix_blocks_for net), length-append lb pb)

  pub link_block_at : (j : ℕ) → j < link_blocks_for net → get_or (blocks_of net) (1 + j) [] ≡ link_block net j
  unfolding blocks_of
  link_block_at j h =
      let m = link_blocks_for net in
      let lb = map (link_block net) (below m) in
      let s : 1 + j ≡ suc j = omega arith in
      rw s (get_or-append lb (map (prefix_block net) (below (prefix_blocks_for net))) [] j (omega (arith, link_blocks_long)) ∙ map_below_at (link_block net) [] m j h)

  pub prefix_block_at : (j : ℕ) → j < prefix_blocks_for net → get_or (blocks_of net) (1 + link_blocks_for net + j) [] ≡ prefix_block net j
  unfolding blocks_of
  prefix_block_at j h =
      let m = link_blocks_for net in
      let n = prefix_blocks_for net in
      let lb = map (link_block net) (below m) in
      let s : 1 + m + j ≡ suc (length lb + j) = omega (arith, link_blocks_long) in
      rw s (get_or-append-add lb (map (prefix_block net) (below n)) j [] ∙ map_below_at (prefix_block net) [] n j h)

  -- What holds of the head, of each link block and of each prefix block holds of each block, P being told the block's number too.
  -- Block 0 is the head; a later number is below the link blocks' end, and then it is link block i, or it is not.
  pub each_block : (P : ℕ → Bytes → Type 0) → P 0 (head_block net) → ((j : ℕ) → j < link_blocks_for net → P (1 + j) (link_block net j)) →
      ((j : ℕ) → j < prefix_blocks_for net → P (1 + link_blocks_for net + j) (prefix_block net j)) →
      (i : ℕ) → i < blocks_for net → P i (get_or (blocks_of net) i [])
  unfolding blocks_needed blocks_of
  each_block P head links prefixes zero h = head
  each_block P head links prefixes (suc i) h = go (decide (ltb i (link_blocks_for net)))
    where
      go : (ltb i (link_blocks_for net) ≡ true) ⊎ (ltb i (link_blocks_for net) ≡ false) → P (suc i) (get_or (blocks_of net) (suc i) [])
      go (inl t) =
          let k : i < link_blocks_for net = ltb-true _ _ t in
          let s : 1 + i ≡ suc i = omega arith in
          rw s at (rw (← link_block_at i k) at (links i k))
      go (inr t) =
          let k : link_blocks_for net ≤ i = ltb-false _ _ t in
          let j = i - link_blocks_for net in
          let l : j < prefix_blocks_for net = omega arith in
          let s : 1 + link_blocks_for net + j ≡ suc i = omega arith in
          rw s at (rw (← prefix_block_at j l) at (prefixes j l))
