-- The head, the link blocks and the prefix blocks, put one after the other, are the file of the network in the columns.
-- Assumes nothing.
use Prim.Native.Nat.{ℕ, ◌+◌, ◌-◌, ◌*◌, ◌≤◌, ◌<◌}
use mathlib.Core.Path.{◌≡◌, refl, sym, ap, ap₂, ◌∙◌}
use mathlib.Core.List.{[], ◌∷◌, ◌++◌, map, append_assoc}
use native.Mathlib.Omega.{arith}
use lib.ListN.{length, get_or, take, drop, replicate, length-append}
use lib.Seq.{take_at}
use Rattle.lfa.specs.Lists.{below, flat}
use Rattle.lfa.specs.Network as lfa
use Rattle.lfa.specs.File.{Bytes, link_blocks, prefix_blocks, blocks_needed, ceil}
use Rattle.lfa.specs.FileOf.{word_bytes, pad, block_bytes, head_block, link_block, prefix_block, blocks_of, file_of}
use Rattle.lfa.proofs.Laws.Counting.{length_map_below, map_below_at, map_below_same}
use Rattle.lfa.proofs.Laws.File.Parts.{flat_append}
use Rattle.lfa.proofs.Laws.File.WrittenFile.{FewAttached, head_long, link_block_long, file_long}
use Rattle.metric.specs.Columns.{links_in}
use Rattle.metric.specs.Column.{slots_in}
use Rattle.network_file.specs.declared.network.Network.{Network}
use Rattle.network_file.specs.Held.{target_in, targets_in, network_held}
use Rattle.writer.specs.Block.{link_block_in, prefix_block_in}
use Rattle.writer.specs.File.{Holds, Small}
use Rattle.writer.proofs.EntryLaws.{flat_long}

-- the bytes that a file holds are its first ones
pub first_bytes : (bytes file : Bytes) (n : ℕ) → Holds bytes file → length bytes ≡ n → take n file ≡ bytes
unfolding pad
first_bytes bytes file n h long = rw h.0 (take_at bytes (replicate (6656 - length bytes) 0) n long)

-- as a part from 0 on
pub first_part : (bytes file : Bytes) (n : ℕ) → Holds bytes file → n ≡ length bytes → take (n - 0) (drop 0 file) ≡ bytes
first_part bytes file n h long = let e : n - 0 ≡ n = omega arith in rw e (first_bytes bytes file n h (sym long))

pub holds_first : (bytes file : Bytes) (n : ℕ) → Holds bytes file → length bytes ≡ n → Holds (take n file) file
holds_first bytes file n h long = rw (first_bytes bytes file n h long) h

pub holds_few : (bytes file : Bytes) → Holds bytes file → length bytes ≤ 6656
unfolding pad
holds_few bytes file h =
    let rest : Bytes = replicate (6656 - length bytes) 0 in
    omega (arith, ap length h.0, h.1, length-append bytes rest)

module _ (s : Network) where
  abbrev net : lfa.Network
  net = network_held s

  -- ---- counts

  pub links_held : length net.links ≡ s.links.links
  unfolding network_held links_in
  links_held = length_map_below _ s.links.links

  pub prefixes_held : length net.prefixes ≡ s.links.prefixes
  unfolding network_held targets_in
  prefixes_held = length_map_below _ s.links.prefixes

  pub prefix_held : (p : ℕ) → p < s.links.prefixes → length (get_or net.prefixes p []) ≡ get_or s.attached p 0
  unfolding network_held targets_in slots_in
  prefix_held p h =
      ap length (map_below_at (target_in s.attached s.at s.own) [] s.links.prefixes p h) ∙ length_map_below _ (get_or s.attached p 0)

  pub small_few : Small s → FewAttached net
  small_few small p h = omega (arith, prefix_held p (omega (arith, prefixes_held)), small.few_attached p (omega (arith, prefixes_held)))

  -- ---- the blocks

  abbrev head_bytes_in : Bytes
  head_bytes_in = block_bytes 1 0 0 (s.links.routers ∷ 0 ∷ word_bytes s.links.links ++ word_bytes s.links.prefixes)

  head_held : head_block net ≡ head_bytes_in
  unfolding head_block
  head_held = rw (links_held, prefixes_held) (unfold network_held in refl)

  abbrev link_bytes_in : ℕ → Bytes
  link_bytes_in n = flat (map (link_block_in s.links.from s.links.to s.links.out s.links.back s.links.links) (below n))

  abbrev prefix_bytes_in : ℕ → ℕ → Bytes
  prefix_bytes_in ahead n = flat (map (prefix_block_in s.attached s.at s.own s.links.prefixes ahead) (below n))

  link_is : (j : ℕ) → link_block net j ≡ link_block_in s.links.from s.links.to s.links.out s.links.back s.links.links j
  unfolding link_block link_block_in network_held
  link_is j = refl

  prefix_is : (j : ℕ) → prefix_block net j ≡ prefix_block_in s.attached s.at s.own s.links.prefixes (1 + link_blocks s.links.links) j
  unfolding prefix_block prefix_block_in
  prefix_is j = rw links_held (unfold network_held in refl)

  -- The file: the head, the link blocks, the prefix blocks.
  file_held : file_of net ≡ head_block net ++ (link_bytes_in (link_blocks s.links.links) ++ prefix_bytes_in (1 + link_blocks s.links.links) (prefix_blocks s.links.prefixes))
  unfolding file_of blocks_of flat
  file_held =
      let m = link_blocks s.links.links in
      let n = prefix_blocks s.links.prefixes in
      rw (links_held, prefixes_held) (ap (λ (b : Bytes). head_block net ++ b) (
      flat_append (map (link_block net) (below m)) (map (prefix_block net) (below n))
      ∙ ap₂ (λ (a b : Bytes). a ++ b)
      (ap flat (map_below_same (link_block net) (link_block_in s.links.from s.links.to s.links.out s.links.back s.links.links) m (λ j h. link_is j)))
      (ap flat (map_below_same (prefix_block net) (prefix_block_in s.attached s.at s.own s.links.prefixes (1 + m)) n
      (λ j h. prefix_is j)))))

  pub few_blocks : Small s → (q : ℕ) → q ≡ prefix_blocks s.links.prefixes → q ≤ 10
  unfolding prefix_blocks ceil
  few_blocks small q e = omega (arith, small.few_prefixes)

  -- ---- one after the other

  module _ (small : Small s) (head : Bytes) (h : Holds head_bytes_in head) where
    head_in : Holds (head_block net) head
    head_in = rw head_held h

    -- the head is the first block
    pub after_head : Holds (take 512 head) head
    after_head = holds_first (head_block net) head 512 head_in (head_long net (small_few small))

    module _ (linked : Bytes) (r : ℕ) (count : r ≡ link_blocks s.links.links) (l : Holds (take 512 head ++ link_bytes_in (link_blocks s.links.links)) linked) where
      front_in : Holds (head_block net ++ link_bytes_in r) linked
      front_in = rw (← count, first_bytes (head_block net) head 512 head_in (head_long net (small_few small))) at l

      front_long : length (head_block net ++ link_bytes_in r) ≡ 512 * (1 + r)
      front_long =
          let each : (k : ℕ) → length (link_block_in s.links.from s.links.to s.links.out s.links.back s.links.links k) ≡ 512 =
          λ k. rw (← link_is k) (link_block_long net (small_few small) k) in
          omega (
            arith,
            length-append (head_block net) (link_bytes_in r),
            head_long net (small_few small),
            flat_long (link_block_in s.links.from s.links.to s.links.out s.links.back s.links.links) 512 r (λ k m. each k),
          )

      pub few_ahead : 1 + r ≤ 3
      unfolding link_blocks ceil
      few_ahead = omega (arith, small.few_links)

      -- and the link blocks are the next
      pub after_links : Holds (take (512 * (1 + r)) linked) linked
      after_links = holds_first (head_block net ++ link_bytes_in r) linked (512 * (1 + r)) front_in front_long

      -- With the prefix blocks after them this is the file.
      pub composed : (q : ℕ) (file : Bytes) → q ≡ prefix_blocks s.links.prefixes →
          Holds (take (512 * (1 + r)) linked ++ prefix_bytes_in (1 + r) (prefix_blocks s.links.prefixes)) file →
          (512 * (1 + r + q) ≡ length (file_of net)) × Holds (file_of net) file
      unfolding blocks_needed
      composed q file right p =
          let front = first_bytes (head_block net ++ link_bytes_in r) linked (512 * (1 + r)) front_in front_long in
          let whole : Holds ((head_block net ++ link_bytes_in r) ++ prefix_bytes_in (1 + r) (prefix_blocks s.links.prefixes)) file = rw front at p in
          let is : (head_block net ++ link_bytes_in r) ++ prefix_bytes_in (1 + r) (prefix_blocks s.links.prefixes) ≡ file_of net =
          append_assoc (head_block net) (link_bytes_in r) _ ∙ rw count (sym file_held) in
          (omega (arith, file_long net (small_few small), ap link_blocks links_held, ap prefix_blocks prefixes_held), rw is at whole)
