-- A network within the limits has a file: what `file_of` writes is bytes, passes the tests of rows 1 to 9, and holds the network.
-- Assumes nothing.
use Rattle.std.specs.Prelude.{ℕ, ◌+◌, ◌<◌, ◌≡◌, refl, get_or}
use mathlib.Core.List.{[], ◌∷◌, ◌++◌, map}
use Rattle.std.proofs.Common.{arith}
use Rattle.std.proofs.Math.ListN.{length}
use Rattle.lfa.specs.Lists.{below}
use Rattle.lfa.specs.Network.{Link, link, Network}
use Rattle.lfa.specs.File.{links_of, prefixes_of, ceil, link_blocks, prefix_blocks, link_of, prefix_of, network_of, entries_in}
use Rattle.lfa.specs.FileOf.{word_bytes, head_block, link_bytes, prefix_bytes, link_block, prefix_block, blocks_of, file_of, WithinLimits}
use Rattle.lfa.proofs.Laws.File.Passes.{AreBytes, Passes}
use Rattle.lfa.proofs.Laws.Chunks.{made_again, group_each}
use Rattle.lfa.proofs.Laws.File.Bytes.{cons_bytes, append_bytes, word_bytes_lem, flat_bytes}
use Rattle.lfa.proofs.Laws.File.WrittenBlock.{block_bytes_lem, entries_bytes}
use Rattle.lfa.proofs.Laws.File.WrittenEntry.{link_bytes_lem, prefix_bytes_lem}
use Rattle.lfa.proofs.Laws.File.WrittenBlocks.{link_blocks_for, prefix_blocks_for, link_entries, prefix_entries, routers_back, links_back, prefixes_back, blocks_long, each_block}
use Rattle.lfa.proofs.Laws.File.WrittenFile.{FewAttached, limits_few, link_within_at, prefix_within_at, links_count, links_long, links_fit_lem, prefixes_count, prefixes_long, prefixes_fit}
use Rattle.lfa.proofs.Laws.File.WrittenRows.{link_of_lem, prefix_of_lem, row1, row2, row3, row4, row5, row6, row7, row8, row9}

module _ (net : Network) (few : FewAttached net) where
  links_same : map (link_of (file_of net)) (below (links_of (file_of net))) ≡ net.links
  links_same = rw (links_back net) (made_again (link_of (file_of net)) net.links (link 0 0 0 0) (link_of_lem net few))

  prefixes_same : map (prefix_of (file_of net)) (below (prefixes_of (file_of net))) ≡ net.prefixes
  prefixes_same = rw (prefixes_back net) (made_again (prefix_of (file_of net)) net.prefixes [] (prefix_of_lem net few))

  -- The file holds the network, if only each prefix fits into its entry: the head's fields read back, and link k and prefix k of the file are those of the network for each k,
  -- so the lists made from them are the network's own.
  pub written_network : network_of (file_of net) ≡ net
  unfolding network_of
  written_network = rw (routers_back net, links_same, prefixes_same)

module _ (net : Network) (within : WithinLimits net) where
  few : FewAttached net
  few = limits_few net within

  -- no row applies to the file: the nine tests, each by its own law of WrittenRows
  pub written_passes : Passes (file_of net)
  written_passes = record {
    row1 = row1 net within;
    row2 = row2 net within;
    row3 = row3 net within;
    row4 = row4 net within;
    row5 = row5 net within;
    row6 = row6 net within;
    row7 = row7 net within;
    row8 = row8 net within;
    row9 = row9 net within;
  }

  -- ---- the bytes

  head_bytes : AreBytes (head_block net)
  unfolding head_block word_bytes
  head_bytes =
      let links = length net.links in
      let prefixes = length net.prefixes in
      let first = word_bytes_lem links (omega (arith, within.few_links)) in
      let second = word_bytes_lem prefixes (omega (arith, within.few_prefixes)) in
      let counts = append_bytes (word_bytes links) (word_bytes prefixes) first second in
      block_bytes_lem 1 0 0 (net.routers ∷ 0 ∷ word_bytes links ++ word_bytes prefixes) (omega arith) (omega arith) (omega arith) (omega arith)
      (cons_bytes net.routers _ (omega (arith, within.few_routers)) (cons_bytes 0 _ (omega arith) counts))

  link_bytes_at : (k : ℕ) → k < length net.links → AreBytes (link_bytes (get_or net.links k (link 0 0 0 0)))
  link_bytes_at k h = go (get_or net.links k (link 0 0 0 0)) refl
    where
      go : (l : Link) → get_or net.links k (link 0 0 0 0) ≡ l → AreBytes (link_bytes l)
      go (link a b ab ba) e = link_bytes_lem net.routers a b ab ba within.few_routers (link_within_at net within k a b ab ba h e)

  link_block_bytes : (j : ℕ) → j < link_blocks_for net → AreBytes (link_block net j)
  unfolding link_block entries_in link_blocks ceil
  link_block_bytes j h =
      entries_bytes 2 (1 + j) 6 (link_entries net j) (links_long net few j) (links_fit_lem net few j)
      (omega arith) (omega (arith, links_count net few j)) (omega (arith, within.few_links)) (group_each link_bytes net.links (link 0 0 0 0) 84 j AreBytes link_bytes_at)

  prefix_bytes_at : (k : ℕ) → k < length net.prefixes → AreBytes (prefix_bytes (get_or net.prefixes k []))
  prefix_bytes_at k h = prefix_bytes_lem net.routers (get_or net.prefixes k []) (prefix_within_at net within k h) within.few_routers

  prefix_block_bytes : (j : ℕ) → j < prefix_blocks_for net → AreBytes (prefix_block net j)
  unfolding prefix_block entries_in link_blocks prefix_blocks ceil
  prefix_block_bytes j h =
      entries_bytes 3 (1 + link_blocks_for net + j) 34 (prefix_entries net j) (prefixes_long net few j) (prefixes_fit net few j)
      (omega arith) (omega (arith, prefixes_count net few j)) (omega (arith, within.few_links, within.few_prefixes))
      (group_each prefix_bytes net.prefixes [] 14 j AreBytes prefix_bytes_at)

  -- Every byte of the file is below 256: the limits bound each field that is written, and padding and checks are bytes.
  pub written_bytes : AreBytes (file_of net)
  unfolding file_of
  written_bytes = flat_bytes (blocks_of net) (λ i h. each_block net (λ i b. AreBytes b) head_bytes link_block_bytes prefix_block_bytes i (omega (arith, blocks_long net)))
