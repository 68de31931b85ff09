-- A block with all its entries and its check is the block that the definition writes.
-- Assumes nothing.
use Prim.Native.Nat.{ℕ, ◌+◌, ◌-◌, ◌*◌, ◌≤◌, ◌<◌, min}
use mathlib.Core.Path.{◌≡◌, sym, ap, ◌∙◌}
use mathlib.Core.List.{List, map, map-map}
use native.Mathlib.Omega.{arith}
use lib.ListN.{length, get_or, take, drop}
use Rattle.lfa.specs.Lists.{below, flat}
use Rattle.lfa.specs.File.{Bytes, check_of}
use Rattle.lfa.specs.FileOf.{word_bytes, pad, link_bytes, prefix_bytes, entries_block}
use Rattle.lfa.proofs.Laws.Counting.{length_map_below, take_drop_map_below}
use Rattle.lfa.proofs.Laws.File.WrittenEntry.{link_long}
use Rattle.metric.specs.Columns.{links_in}
use Rattle.network_file.specs.Held.{target_in, targets_in}
use Rattle.writer.specs.Put.{put_at}
use Rattle.writer.specs.Block.{link_held, link_entry_in, prefix_entry_in, first_entries, link_block_in, prefix_block_in}
use Rattle.writer.proofs.EntryLaws.{flat_long, sealed}
use Rattle.writer.proofs.TurnLaws.{prefix_held_long}

-- the entries of block j are those from number each × j on
module _ {A : Type 0} (f : ℕ → A) (write : A → Bytes) (each total j : ℕ) where
  abbrev entry_at : ℕ → Bytes
  entry_at i = write (f (each * j + i))

  entries_are : map write (take each (drop (each * j) (map f (below total)))) ≡ map entry_at (below (min each (total - each * j)))
  entries_are =
      ap (map write) (take_drop_map_below f each (each * j) total)
      ∙ map-map write (λ i. f (each * j + i)) (below (min each (total - each * j)))

  -- The block of these entries: sealed, with all of them in it.
  made : (kind number size count : ℕ) (filled block : Bytes) → count ≡ min each (total - each * j) →
      ((k : ℕ) → k < count → length (entry_at k) ≡ size) →
      size * count ≤ 506 → filled ≡ pad 512 (first_entries kind count number entry_at count) →
      block ≡ put_at 510 (word_bytes (check_of filled)) filled →
      block ≡ entries_block kind number (map write (take each (drop (each * j) (map f (below total)))))
  unfolding first_entries entries_block
  made kind number size count filled block right long fits e seal =
      let entries = map entry_at (below count) in
      let same : map write (take each (drop (each * j) (map f (below total)))) ≡ entries =
      entries_are ∙ ap (λ (n : ℕ). map entry_at (below n)) (sym right) in
      rw (same, length_map_below entry_at count)
      (seal ∙ ap (λ (b : Bytes). put_at 510 (word_bytes (check_of b)) b) e
      ∙ sealed kind count number (flat entries) (omega (arith, flat_long entry_at size count long)))

-- link block j
pub link_block_made : (from to out back : List ℕ) (links j number count : ℕ) (filled block : Bytes) → number ≡ 1 + j →
    count ≡ min 84 (links - 84 * j) →
    filled ≡ pad 512 (first_entries 2 count number (link_entry_in from to out back (84 * j)) count) →
    block ≡ put_at 510 (word_bytes (check_of filled)) filled → block ≡ link_block_in from to out back links j
unfolding link_block_in links_in
link_block_made from to out back links j number count filled block is right e seal =
    let f = link_held from to out back in
    rw is at (made f link_bytes 84 links j 2 number 6 count filled block right (λ k h. link_long (f (84 * j + k))) (omega arith) e seal)

-- prefix block j
pub prefix_block_made : (attached routers costs : List ℕ) (prefixes before j number count : ℕ) (filled block : Bytes) →
    number ≡ before + j →
    count ≡ min 14 (prefixes - 14 * j) → ((p : ℕ) → p < prefixes → get_or attached p 0 ≤ 8) →
    filled ≡ pad 512 (first_entries 3 count number (prefix_entry_in attached routers costs (14 * j)) count) →
    block ≡ put_at 510 (word_bytes (check_of filled)) filled → block ≡ prefix_block_in attached routers costs prefixes before j
unfolding prefix_block_in targets_in
prefix_block_made attached routers costs prefixes before j number count filled block is right few e seal =
    let f = target_in attached routers costs in
    rw is at (made f prefix_bytes 14 prefixes j 3 number 34 count filled block right
    (λ k h. prefix_held_long attached routers costs (14 * j) count number k (few (14 * j + k) (omega arith))) (omega arith) e seal)
