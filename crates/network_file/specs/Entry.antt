-- Rows 6 to 9, the rows of the entries: what is known when they are tried, and what they look at.
-- Assumes nothing.
use Rattle.std.specs.Prelude.{ℕ, ◌+◌, ◌-◌, ◌*◌, ◌/◌, ◌%◌, ◌≤◌, ◌<◌, min, ◌≡◌, Bool, true, false, not, ◌&&◌, ◌||◌, List, [], ◌∷◌, ◌++◌, map, eqb, ltb, leb, length, get_or}
use Rattle.lfa.specs.Lists.{below, every_below}
use Rattle.lfa.specs.Network.{Link, link}
use Rattle.lfa.specs.File.{Bytes, word_at, links_of, prefixes_of, link_blocks, network_of, sound_link, join_same, prefix_good}
use Rattle.lfa.specs.Refusal.{FileRow, bad_link, parallel_link, bad_prefix, router_twice}
use Rattle.block.specs.Judged.{Sized}
use Rattle.metric.specs.declared.columns.Links.{Links}
use Rattle.network_file.specs.Struct.{links_struct_of}

-- the rows that speak of links, then those that speak of prefixes, which are tried after those of blocks
unfoldable pub link_rows : List FileRow
link_rows = bad_link ∷ parallel_link ∷ []

unfoldable pub prefix_rows : List FileRow
prefix_rows = bad_prefix ∷ router_twice ∷ []

unfoldable pub entry_rows : List FileRow
entry_rows = link_rows ++ prefix_rows

-- ---- what is known when rows 6 to 9 are tried

-- the links by value of a file to which none of rows 1 to 5 applies ..
pub record LinksOf (b : Bytes) (l : Links) : Type 0 where
  pub sized : Sized b
  pub same : l ≡ links_struct_of (network_of b)

-- .. are few
pub record FewLinks (l : Links) : Type 0 where
  pub few_routers : l.routers ≤ 64
  pub few_links : l.links ≤ 128

-- row 8 turns down none of the first n prefixes
abbrev pub PrefixesSound : Bytes → ℕ → Type 0
PrefixesSound b n = (p : ℕ) → p < n → prefix_good b p ≡ true

-- ---- places

-- the place after one, of entries of `size` bytes of which `per` fill a block behind its label: behind the entry, or behind the label of the next
-- block
abbrev pub next_place : (size per place : ℕ) → ℕ
next_place size per place =
    elim (eqb ((place + size) % 512) (4 + size * per)) [ true ↦ place + size + (512 - size * per) | false ↦ place + size ]

-- ---- rows 6 and 7 over the links

-- where the entry of link k stands
unfoldable pub link_place : ℕ → ℕ
link_place k = 512 * (1 + k / 84) + 4 + 6 * (k % 84)

-- the routers of each link are below 64
abbrev pub EndsBelow : Links → Type 0
EndsBelow l = (k : ℕ) → k < l.links → (get_or l.from k 0 < 64) × (get_or l.to k 0 < 64)

-- link k
unfoldable pub link_at : Links → ℕ → Link
link_at l k = link (get_or l.from k 0) (get_or l.to k 0) (get_or l.out k 0) (get_or l.back k 0)

-- rows 6 and 7 at link k
unfoldable pub link_sound : Links → ℕ → Bool
link_sound l k = sound_link l.routers (link_at l k)

unfoldable pub pair_new : Links → ℕ → Bool
pair_new l k = every_below (λ j. not (join_same (link_at l k) (link_at l j))) k

-- the two parts of row 6, of which each has a loop of its own: the routers, and the costs
unfoldable pub ends_good : Links → ℕ → Bool
ends_good l k = ltb (get_or l.from k 0) l.routers && ltb (get_or l.to k 0) l.routers && not (eqb (get_or l.from k 0) (get_or l.to k 0))

unfoldable pub costs_good : Links → ℕ → Bool
costs_good l k = leb 1 (get_or l.out k 0) && leb 1 (get_or l.back k 0)

-- the cell of two routers in a table of 64 rows and columns: the lower router's row, the other's column
unfoldable pub pair_cell : ℕ → ℕ → ℕ
pair_cell a b = 64 * min a b + (a + b - min a b)

-- ---- rows 8 and 9 over the entry of a prefix

-- where the entry of prefix p stands, behind the blocks of so many links
unfoldable pub place_in : ℕ → ℕ → ℕ
place_in links p = 512 * (1 + link_blocks links + p / 14) + 4 + 34 * (p % 14)

-- the entry of prefix p of a file stands there
pub record EntryAt (b : Bytes) (place p : ℕ) : Type 0 where
  pub sized : Sized b
  pub in_file : p < prefixes_of b
  pub at_place : place ≡ place_in (links_of b) p

-- row 8 at slot s, of which it says that it is zero unless it is one of the used slots
unfoldable pub unused_zero : Bytes → ℕ → ℕ → Bool
unused_zero e count s = ltb s count || eqb (word_at e (2 + 4 * s) + 65536 * word_at e (4 + 4 * s)) 0

-- the mask of slot s where `count` slots are used, at cell 8 × count + s: no bit of a used slot, all 32 bits of one that is not
unfoldable pub unused_mask : ℕ → ℕ → ℕ
unused_mask count s = elim (ltb s count) [ true ↦ 0 | false ↦ 4294967295 ]

unfoldable pub unused_masks : List ℕ
unused_masks = map (λ k. unused_mask (k / 8) (k % 8)) (below 72)

-- an entry that row 8 passes, as row 9 reads it: at most eight slots are used, and their routers are below 64
pub record Slots (e : Bytes) : Type 0 where
  pub long : length e ≡ 34
  pub few : get_or e 0 0 ≤ 8
  pub routers_below : (s : ℕ) → s < get_or e 0 0 → get_or e (2 + 4 * s) 0 < 64
