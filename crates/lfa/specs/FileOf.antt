-- `file_of` writes a network: the file that document 01's layout gives it, and the limits within which a network has one.
-- Assumes nothing.
use Rattle.std.specs.Prelude.{ℕ, ◌+◌, ◌-◌, ◌*◌, ◌/◌, ◌%◌, ◌≤◌, ◌<◌, ◌≡◌, ◌⊎◌, get_or, length, take, drop, replicate}
use mathlib.Core.List.{List, [], ◌∷◌, ◌++◌, map, Memᴰ}
use Rattle.lfa.specs.Lists.{below, flat}
use Rattle.lfa.specs.Network.{Link, link, Attachment, at, Target, Network}
use Rattle.lfa.specs.File.{Bytes, check_of, link_blocks, prefix_blocks}

-- ---- writing

-- a 16-bit field, least byte first
unfoldable pub word_bytes : ℕ → Bytes
word_bytes w = w % 256 ∷ w / 256 ∷ []

-- zeros after the bytes, n bytes in all
unfoldable pub pad : ℕ → Bytes → Bytes
pad n b = b ++ replicate (n - length b) 0

-- a block: kind, entries, block number, content, the check
unfoldable pub block_bytes : ℕ → ℕ → ℕ → Bytes → Bytes
block_bytes kind entries number content =
    let front : Bytes = kind ∷ entries ∷ word_bytes number ++ pad 506 content in
    front ++ word_bytes (check_of front)

unfoldable pub head_block : Network → Bytes
head_block net = block_bytes 1 0 0 (net.routers ∷ 0 ∷ word_bytes (length net.links) ++ word_bytes (length net.prefixes))

unfoldable pub link_bytes : Link → Bytes
link_bytes (link a b ab ba) = a ∷ b ∷ word_bytes ab ++ word_bytes ba

unfoldable pub slot_bytes : Attachment → Bytes
slot_bytes (at a c) = a ∷ 0 ∷ word_bytes c

unfoldable pub prefix_bytes : Target → Bytes
prefix_bytes to = pad 34 (length to ∷ 0 ∷ flat (map slot_bytes to))

-- a block of entries
unfoldable pub entries_block : ℕ → ℕ → List Bytes → Bytes
entries_block kind number entries = block_bytes kind (length entries) number (flat entries)

-- link block j, the links from 84 × j on
unfoldable pub link_block : Network → ℕ → Bytes
link_block net j = entries_block 2 (1 + j) (map link_bytes (take 84 (drop (84 * j) net.links)))

-- prefix block j, the prefixes from 14 × j on
unfoldable pub prefix_block : Network → ℕ → Bytes
prefix_block net j =
    entries_block 3 (1 + link_blocks (length net.links) + j) (map prefix_bytes (take 14 (drop (14 * j) net.prefixes)))

-- head, link blocks, prefix blocks
unfoldable pub blocks_of : Network → List Bytes
blocks_of net =
    head_block net ∷
    map (link_block net) (below (link_blocks (length net.links)))
    ++ map (prefix_block net) (below (prefix_blocks (length net.prefixes)))

unfoldable pub file_of : Network → Bytes
file_of net = flat (blocks_of net)

-- ---- the limits of document 01

-- "cost a to b, cost b to a (16 bits each, 1 to 65,535)", between two routers of the network
pub record LinkWithin (n a b ab ba : ℕ) : Type 0 where
  pub a_in : a < n
  pub b_in : b < n
  pub two : a ≡ b → ⊥
  pub out_some : 1 ≤ ab
  pub back_some : 1 ≤ ba
  pub out_most : ab ≤ 65535
  pub back_most : ba ≤ 65535

-- two links join the same two routers
abbrev pub JoinSame : Link → Link → Type 0
JoinSame (link a b ab ba) (link c d cd dc) = ((a ≡ c) × (b ≡ d)) ⊎ ((a ≡ d) × (b ≡ c))

-- "attachments (1 to 8) .. router, zero byte, 16-bit cost (0 to 65,535)", no router twice
pub record PrefixWithin (n : ℕ) (to : Target) : Type 0 where
  pub some : 1 ≤ length to
  pub few : length to ≤ 8
  pub router_in : {a c : ℕ} → Memᴰ (at a c) to → a < n
  pub cost_most : {a c : ℕ} → Memᴰ (at a c) to → c ≤ 65535
  pub once : (i j a c k : ℕ) → i < j → j < length to → get_or to i (at 0 0) ≡ at a c → get_or to j (at 0 0) ≡ at a k → ⊥

-- a network within the limits
pub record WithinLimits (net : Network) : Type 0 where
  pub some_routers : 1 ≤ net.routers
  pub few_routers : net.routers ≤ 64
  pub few_links : length net.links ≤ 128
  pub few_prefixes : length net.prefixes ≤ 128
  pub link_within : {a b ab ba : ℕ} → Memᴰ (link a b ab ba) net.links → LinkWithin net.routers a b ab ba
  pub no_parallel : (i j : ℕ) → i < j → j < length net.links → JoinSame (get_or net.links j (link 0 0 0 0)) (get_or net.links i (link 0 0 0 0)) → ⊥
  pub prefix_within : {to : Target} → Memᴰ to net.prefixes → PrefixWithin net.routers to
