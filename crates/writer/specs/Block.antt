-- Blocks of the file as they are put together: entry after entry in a block of zeros, block after block.
-- Assumes nothing.
use Rattle.std.specs.Prelude.{ℕ, ◌+◌, ◌*◌, ◌≡◌, List, [], ◌∷◌, ◌++◌, map, length, get_or, take, drop}
use Rattle.lfa.specs.Lists.{below, flat}
use Rattle.lfa.specs.Network.{Link, link}
use Rattle.lfa.specs.File.{Bytes}
use Rattle.lfa.specs.FileOf.{word_bytes, pad, link_bytes, prefix_bytes, entries_block}
use Rattle.metric.specs.Columns.{links_in}
use Rattle.network_file.specs.Held.{target_in, targets_in}

-- a block of zeros
abbrev pub ZeroBlock : Bytes → Type 0
ZeroBlock block = (block ≡ pad 512 []) × (length block ≡ 512)

-- link k of the columns
abbrev pub link_held : (from to out back : List ℕ) → ℕ → Link
link_held from to out back k = link (get_or from k 0) (get_or to k 0) (get_or out k 0) (get_or back k 0)

-- entry i of a block of links, or of prefixes, whose first is number `first`
abbrev pub link_entry_in : (from to out back : List ℕ) → ℕ → ℕ → Bytes
link_entry_in from to out back first i = link_bytes (link_held from to out back (first + i))

abbrev pub prefix_entry_in : (attached routers costs : List ℕ) → ℕ → ℕ → Bytes
prefix_entry_in attached routers costs first i = prefix_bytes (target_in attached routers costs (first + i))

-- kind, entries and number of a block, and its first i entries, of which number k is `entry k`
unfoldable pub first_entries : (kind entries number : ℕ) → (ℕ → Bytes) → ℕ → Bytes
first_entries kind entries number entry i = kind ∷ entries ∷ word_bytes number ++ flat (map entry (below i))

-- link block j of so many links
unfoldable pub link_block_in : (from to out back : List ℕ) → ℕ → ℕ → Bytes
link_block_in from to out back links j = entries_block 2 (1 + j) (map link_bytes (take 84 (drop (84 * j) (links_in from to out back links))))

-- prefix block j of so many prefixes, where so many blocks stand before the prefix blocks
unfoldable pub prefix_block_in : (attached routers costs : List ℕ) → ℕ → ℕ → ℕ → Bytes
prefix_block_in attached routers costs prefixes before j =
    entries_block 3 (before + j) (map prefix_bytes (take 14 (drop (14 * j) (targets_in attached routers costs prefixes))))
