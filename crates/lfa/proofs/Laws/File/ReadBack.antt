-- A file to which none of rows 1 to 9 applies is the file that is written of the network that it holds.
-- Assumes nothing.
use Rattle.std.specs.Prelude.{ℕ, ◌+◌, ◌-◌, ◌*◌, ◌/◌, ◌%◌, ◌≤◌, ◌<◌, ◌≡◌, true, ◌∷◌, ◌++◌, map}
use Rattle.std.proofs.Math.Path.{sym, ap, ap₂}
use Rattle.std.proofs.Common.{◌∙◌, zero-add}
use native.Mathlib.Omega.{arith}
use Rattle.std.proofs.Math.ListN.{length}
use Rattle.lfa.specs.Lists.{below, flat}
use Rattle.lfa.specs.File.{Bytes, byte_at, word_at, part_of, all_zero, blocks_in, block_of, check_of, routers_of, links_of, prefixes_of, link_blocks, prefix_blocks}
use Rattle.lfa.specs.File.{link_entry, prefix_entry, link_of, prefix_of, network_of, later_good, entries_in, prefix_good}
use Rattle.lfa.specs.FileOf.{word_bytes, head_block, link_bytes, prefix_bytes, link_block, prefix_block, blocks_of, file_of}
use Rattle.lfa.proofs.Laws.File.Passes.{AreBytes, Passes}
use Rattle.lfa.proofs.Laws.Counting.{length_map_below, map_below_same}
use Rattle.lfa.proofs.Laws.File.Parts.{flat_append, part_length, byte_part, word_part, part_whole, part_part, parts_join, flat_parts, padded, part_bytes}
use Rattle.lfa.proofs.Laws.File.RowFacts.{later_facts, length_fact, check_fact, count_fact, link_block_fact, prefix_block_fact, head_facts}
use Rattle.lfa.proofs.Laws.File.Blocks.{link_written, prefix_written, block_written, head_fields, later_written, entries_length, entries_flat}

module _ (b : Bytes) (bytes : AreBytes b) (p : Passes b) where
  -- row 1
  file_length : length b ≡ 512 * blocks_in b
  unfolding blocks_in
  file_length = omega (arith, length_fact b p.row1)

  block_length : (i : ℕ) → i < blocks_in b → length (block_of b i) ≡ 512
  unfolding block_of
  block_length i h = part_length b (512 * i) 512 (omega (arith, file_length))

  block_bytes_lem : (i : ℕ) → AreBytes (block_of b i)
  unfolding block_of
  block_bytes_lem i = part_bytes b (512 * i) 512 bytes

  -- row 2
  block_check : (i : ℕ) → i < blocks_in b → check_of (block_of b i) ≡ word_at (block_of b i) 510
  block_check i h = check_fact b i (p.row2 i h)

  -- row 4
  block_count : blocks_in b ≡ 1 + link_blocks (links_of b) + prefix_blocks (prefixes_of b)
  block_count = count_fact b p.row4

  -- row 5
  link_block_good : (j : ℕ) → j < link_blocks (links_of b) → later_good (block_of b (1 + j)) (1 + j) 2 (entries_in 84 (links_of b) j) 6 ≡ true
  link_block_good j h =
      let e : 1 + j - 1 ≡ j = omega arith in
      rw e at (link_block_fact b (1 + j) (omega arith) (p.row5 (1 + j) (omega arith) (omega (arith, block_count))))

  prefix_block_good : (j : ℕ) → j < prefix_blocks (prefixes_of b) →
      later_good (block_of b (1 + link_blocks (links_of b) + j)) (1 + link_blocks (links_of b) + j) 3 (entries_in 14 (prefixes_of b) j) 34 ≡ true
  prefix_block_good j h =
      let i = 1 + link_blocks (links_of b) + j in
      let e : i - 1 - link_blocks (links_of b) ≡ j = omega arith in
      rw e at (prefix_block_fact b i (omega arith) (p.row5 i (omega arith) (omega (arith, block_count))))

  -- an entry, as a part of its block
  link_part_lem : (j i : ℕ) → i < 84 → link_entry b (84 * j + i) ≡ part_of (block_of b (1 + j)) (4 + 6 * i) 6
  unfolding link_entry block_of
  link_part_lem j i h =
      let e : 512 * (1 + (84 * j + i) / 84) + 4 + 6 * ((84 * j + i) % 84) ≡ 512 * (1 + j) + (4 + 6 * i) = omega arith in
      ap (λ k. part_of b k 6) e ∙ sym (part_part b (512 * (1 + j)) 512 (4 + 6 * i) 6 (omega arith))

  prefix_part_lem : (j i : ℕ) → i < 14 → prefix_entry b (14 * j + i) ≡ part_of (block_of b (1 + link_blocks (links_of b) + j)) (4 + 34 * i) 34
  unfolding prefix_entry block_of
  prefix_part_lem j i h =
      let first = 1 + link_blocks (links_of b) in
      let e : 512 * (first + (14 * j + i) / 14) + 4 + 34 * ((14 * j + i) % 14) ≡ 512 * (first + j) + (4 + 34 * i) = omega arith in
      ap (λ k. part_of b k 34) e ∙ sym (part_part b (512 * (first + j)) 512 (4 + 34 * i) 34 (omega arith))

  -- rows 2 and 5: link block j and prefix block j
  link_entry_written : (j i : ℕ) → j < link_blocks (links_of b) → i < 84 → link_bytes (link_of b (84 * j + i)) ≡ part_of (block_of b (1 + j)) (4 + 6 * i) 6
  unfolding link_of
  link_entry_written j i h k =
      let e = block_of b (1 + j) in
      let l : length e ≡ 512 = block_length (1 + j) (omega (arith, block_count)) in
      rw (link_part_lem j i k) (link_written (part_of e (4 + 6 * i) 6) (part_bytes e _ 6 (block_bytes_lem (1 + j))) (part_length e (4 + 6 * i) 6 (omega arith)))

  link_block_written : (j : ℕ) → j < link_blocks (links_of b) → link_block (network_of b) j ≡ block_of b (1 + j)
  unfolding link_block network_of
  link_block_written j h =
      let few : 1 + j < blocks_in b = omega (arith, block_count) in
      let each : entries_in 84 (links_of b) j ≤ 84 = unfold entries_in in omega arith in
      later_written (block_of b (1 + j)) 2 (1 + j) (entries_in 84 (links_of b) j) 6 _ (block_bytes_lem (1 + j)) (block_length (1 + j) few) (block_check (1 + j) few)
      (later_facts _ _ _ _ _ (link_block_good j h)) (omega arith)
      (entries_length (link_of b) link_bytes 84 (links_of b) j)
      (entries_flat (link_of b) link_bytes 84 (links_of b) j 6 (block_of b (1 + j)) (λ i k. link_entry_written j i h (omega arith)))

  -- row 8 too, for the entry itself
  prefix_entry_written : (j i : ℕ) → j < prefix_blocks (prefixes_of b) → i < entries_in 14 (prefixes_of b) j →
      prefix_bytes (prefix_of b (14 * j + i)) ≡ part_of (block_of b (1 + link_blocks (links_of b) + j)) (4 + 34 * i) 34
  unfolding prefix_of prefix_good entries_in
  prefix_entry_written j i h k =
      let at_block = 1 + link_blocks (links_of b) + j in
      let e = block_of b at_block in
      let l : length e ≡ 512 = block_length at_block (omega (arith, block_count)) in
      let same = prefix_part_lem j i (omega arith) in
      rw same (prefix_written (routers_of b) (part_of e (4 + 34 * i) 34) (part_bytes e _ 34 (block_bytes_lem at_block)) (part_length e (4 + 34 * i) 34 (omega arith))
      (rw same at (p.row8 (14 * j + i) (omega arith))))

  prefix_block_written : (j : ℕ) → j < prefix_blocks (prefixes_of b) → prefix_block (network_of b) j ≡ block_of b (1 + link_blocks (links_of b) + j)
  unfolding prefix_block network_of
  prefix_block_written j h =
      let i = 1 + link_blocks (links_of b) + j in
      let few : i < blocks_in b = omega (arith, block_count) in
      let each : entries_in 14 (prefixes_of b) j ≤ 14 = unfold entries_in in omega arith in
      rw (length_map_below (link_of b) (links_of b))
      (later_written (block_of b i) 3 i (entries_in 14 (prefixes_of b) j) 34 _ (block_bytes_lem i) (block_length i few) (block_check i few)
      (later_facts _ _ _ _ _ (prefix_block_good j h)) (omega arith)
      (entries_length (prefix_of b) prefix_bytes 14 (prefixes_of b) j)
      (entries_flat (prefix_of b) prefix_bytes 14 (prefixes_of b) j 34 (block_of b i) (λ i k. prefix_entry_written j i h k)))

  -- rows 2 and 3: the head
  head_byte : (i : ℕ) → i < 512 → byte_at (block_of b 0) i ≡ byte_at b i
  unfolding block_of
  head_byte i h = byte_part b 0 512 i h ∙ ap (byte_at b) (zero-add i)

  head_word : (i : ℕ) → i + 1 < 512 → word_at (block_of b 0) i ≡ word_at b i
  unfolding block_of
  head_word i h = word_part b 0 512 i h ∙ ap (word_at b) (zero-add i)

  head_content_lem : routers_of b ∷ 0 ∷ word_bytes (links_of b) ++ word_bytes (prefixes_of b) ≡ part_of (block_of b 0) 4 6
  unfolding routers_of links_of prefixes_of
  head_content_lem =
      let l : length (block_of b 0) ≡ 512 = block_length 0 (omega (arith, block_count)) in
      head_fields (block_of b 0) (byte_at b 4) 0 (word_at b 6) (word_at b 8) (block_bytes_lem 0) l
      (head_byte 4 (omega arith)) (head_byte 5 (omega arith) ∙ (head_facts b p.row3).zero_byte)
      (head_word 6 (omega arith)) (head_word 8 (omega arith))

  head_zero : all_zero (part_of (block_of b 0) 10 500) ≡ true
  unfolding block_of
  head_zero = rw (part_part b 0 512 10 500 (omega arith)) (head_facts b p.row3).rest_zero

  head_written : head_block (network_of b) ≡ block_of b 0
  unfolding head_block network_of
  head_written =
      let f = head_facts b p.row3 in
      let e = block_of b 0 in
      let few : 0 < blocks_in b = omega (arith, block_count) in
      let l : length (block_of b 0) ≡ 512 = block_length 0 few in
      rw (length_map_below (link_of b) (links_of b), length_map_below (prefix_of b) (prefixes_of b), head_content_lem)
      (block_written e (part_of e 4 6) 1 0 0 (block_bytes_lem 0) l (block_check 0 few) (head_byte 0 (omega arith) ∙ f.kind) (head_byte 1 (omega arith) ∙ f.entries)
      (head_word 2 (omega arith) ∙ f.number) (padded e 4 6 506 (omega arith) (omega arith) head_zero))

  -- the blocks of one kind, one after the other, are one part of the file
  link_blocks_written : flat (map (link_block (network_of b)) (below (link_blocks (links_of b)))) ≡ part_of b 512 (512 * link_blocks (links_of b))
  unfolding block_of
  link_blocks_written =
      ap flat (map_below_same (link_block (network_of b)) (λ j. part_of b (512 + 512 * j) 512) (link_blocks (links_of b)) (λ j h.
      let e : 512 * (1 + j) ≡ 512 + 512 * j = omega arith in
      link_block_written j h ∙ ap (λ k. part_of b k 512) e))
      ∙ flat_parts b 512 512 (link_blocks (links_of b))

  prefix_blocks_written : flat (map (prefix_block (network_of b)) (below (prefix_blocks (prefixes_of b)))) ≡
      part_of b (512 + 512 * link_blocks (links_of b)) (512 * prefix_blocks (prefixes_of b))
  unfolding block_of
  prefix_blocks_written =
      let first = 512 + 512 * link_blocks (links_of b) in
      ap flat (map_below_same (prefix_block (network_of b)) (λ j. part_of b (first + 512 * j) 512) (prefix_blocks (prefixes_of b)) (λ j h.
      let e : 512 * (1 + link_blocks (links_of b) + j) ≡ first + 512 * j = omega arith in
      prefix_block_written j h ∙ ap (λ k. part_of b k 512) e))
      ∙ flat_parts b first 512 (prefix_blocks (prefixes_of b))

  blocks_written : flat (blocks_of (network_of b)) ≡
      part_of b 0 512 ++ (part_of b 512 (512 * link_blocks (links_of b)) ++ part_of b (512 + 512 * link_blocks (links_of b)) (512 * prefix_blocks (prefixes_of b)))
  unfolding blocks_of flat network_of block_of
  blocks_written =
      rw (length_map_below (link_of b) (links_of b), length_map_below (prefix_of b) (prefixes_of b))
      (ap₂ (λ (x y : Bytes). x ++ y) head_written
      (flat_append (map (link_block (network_of b)) (below (link_blocks (links_of b)))) (map (prefix_block (network_of b)) (below (prefix_blocks (prefixes_of b))))
      ∙ ap₂ (λ (x y : Bytes). x ++ y) link_blocks_written prefix_blocks_written))

  -- A file to which no row applies is what is written of its network: the head, each link block and each prefix block is the block that is written
  -- of what it holds (rows 2, 3, 5, 8), there are as many as are written (row 4), and one after the other they are the file (row 1).
  pub passes_written : file_of (network_of b) ≡ b
  unfolding file_of
  passes_written =
      let n = link_blocks (links_of b) in
      let m = prefix_blocks (prefixes_of b) in
      blocks_written
      ∙ ap (λ (r : Bytes). part_of b 0 512 ++ r) (parts_join b 512 (512 * n) (512 * m))
      ∙ parts_join b 0 512 (512 * n + 512 * m)
      ∙ part_whole b (512 + (512 * n + 512 * m)) (omega (arith, file_length, block_count))
