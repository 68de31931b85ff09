-- "The network file": its layout, the tests of rows 1 to 9 of the table of refusals, and the network that a file holds.
-- Assumes nothing.
use Rattle.std.specs.Prelude.{ℕ, zero, suc, ◌+◌, ◌-◌, ◌*◌, ◌/◌, ◌%◌, min, Bool, true, false, not, ◌&&◌, ◌||◌, List, [], ◌∷◌, map, eqb, ltb, leb, get_or, length, take, drop}
use Rattle.lfa.specs.Lists.{below, every_below}
use Rattle.lfa.specs.Network.{Link, link, Attachment, at, Target, Network}

-- ---- bytes and fields

abbrev pub Bytes : Type 0
Bytes = List ℕ

unfoldable pub byte_at : Bytes → ℕ → ℕ
byte_at b k = get_or b k 0

-- "16-bit fields least byte first"
unfoldable pub word_at : Bytes → ℕ → ℕ
word_at b k = byte_at b k + 256 * byte_at b (k + 1)

-- n bytes from offset k on
unfoldable pub part_of : Bytes → ℕ → ℕ → Bytes
part_of b k n = take n (drop k b)

unfoldable pub all_zero : Bytes → Bool
all_zero [] = true
all_zero (x ∷ b) = eqb x 0 && all_zero b

-- ---- "Blocks of 512 bytes"

-- number of blocks in the file
unfoldable pub blocks_in : Bytes → ℕ
blocks_in b = length b / 512

unfoldable pub block_of : Bytes → ℕ → Bytes
block_of b i = part_of b (512 * i) 512

-- the sum of the first n 16-bit words
unfoldable pub sum_words : ℕ → Bytes → ℕ
sum_words zero b = 0
sum_words (suc n) [] = 0
sum_words (suc n) (x ∷ []) = x
sum_words (suc n) (x ∷ y ∷ b) = x + 256 * y + sum_words n b

-- "the check, the sum modulo 65,536 of the block's first 255 16-bit words"
unfoldable pub check_of : Bytes → ℕ
check_of block = sum_words 255 block % 65536

-- ---- "Head, block 0": routers N, links L, prefixes

unfoldable pub routers_of : Bytes → ℕ
routers_of b = byte_at b 4

unfoldable pub links_of : Bytes → ℕ
links_of b = word_at b 6

unfoldable pub prefixes_of : Bytes → ℕ
prefixes_of b = word_at b 8

-- ---- link blocks, then prefix blocks

-- the quotient rounded up
unfoldable pub ceil : ℕ → ℕ → ℕ
ceil n k = (n + (k - 1)) / k

-- "the link blocks, 84 entries each but the last"
unfoldable pub link_blocks : ℕ → ℕ
link_blocks links = ceil links 84

-- "the prefix blocks, 14 entries each but the last"
unfoldable pub prefix_blocks : ℕ → ℕ
prefix_blocks prefixes = ceil prefixes 14

-- the number of blocks that follows from L and prefixes
unfoldable pub blocks_needed : ℕ → ℕ → ℕ
blocks_needed links prefixes = 1 + link_blocks links + prefix_blocks prefixes

-- ---- entries

-- the 6 bytes of link k
unfoldable pub link_entry : Bytes → ℕ → Bytes
link_entry b k = part_of b (512 * (1 + k / 84) + 4 + 6 * (k % 84)) 6

-- "router a, router b, cost a to b, cost b to a"
unfoldable pub link_in : Bytes → Link
link_in entry = link (byte_at entry 0) (byte_at entry 1) (word_at entry 2) (word_at entry 4)

-- the 34 bytes of prefix k
unfoldable pub prefix_entry : Bytes → ℕ → Bytes
prefix_entry b k = part_of b (512 * (1 + link_blocks (links_of b) + k / 14) + 4 + 34 * (k % 14)) 34

-- number of attachments
unfoldable pub attachments : Bytes → ℕ
attachments entry = byte_at entry 0

-- the router of slot s
unfoldable pub slot_router : Bytes → ℕ → ℕ
slot_router entry s = byte_at entry (2 + 4 * s)

-- slot s: "router, zero byte, 16-bit cost"
unfoldable pub slot : Bytes → ℕ → Attachment
slot entry s = at (slot_router entry s) (word_at entry (4 + 4 * s))

unfoldable pub prefix_in : Bytes → Target
prefix_in entry = map (slot entry) (below (attachments entry))

-- ---- the network that a file holds

unfoldable pub link_of : Bytes → ℕ → Link
link_of b k = link_in (link_entry b k)

unfoldable pub prefix_of : Bytes → ℕ → Target
prefix_of b k = prefix_in (prefix_entry b k)

unfoldable pub network_of : Bytes → Network
network_of b = record {
  routers = routers_of b;
  links = map (link_of b) (below (links_of b));
  prefixes = map (prefix_of b) (below (prefixes_of b));
}

-- ---- the tests of rows 1 to 9: each passes where its row does not apply

-- row 1: "length 0, no multiple of 512, or over 6,656"
unfoldable pub length_good : Bytes → Bool
length_good b = not (eqb (length b) 0) && eqb (length b % 512) 0 && leb (length b) 6656

-- row 2: "a block's check is wrong"
unfoldable pub check_good : Bytes → ℕ → Bool
check_good b i = eqb (check_of (block_of b i)) (word_at (block_of b i) 510)

-- row 3: "head: kind, entries, block number, N, L, prefixes or a zero byte is wrong"
unfoldable pub head_good : Bytes → Bool
head_good b =
    eqb (byte_at b 0) 1 && eqb (byte_at b 1) 0 && eqb (word_at b 2) 0
    && leb 1 (routers_of b) && leb (routers_of b) 64 && eqb (byte_at b 5) 0
    && leb (links_of b) 128 && leb (prefixes_of b) 128 && all_zero (part_of b 10 500)

-- row 4: "number of blocks doesn't follow from L and prefixes"
unfoldable pub block_count_good : Bytes → Bool
block_count_good b = eqb (blocks_in b) (blocks_needed (links_of b) (prefixes_of b))

-- a block that has this number, this kind, this many entries of this size, and zero after the last
unfoldable pub later_good : Bytes → ℕ → ℕ → ℕ → ℕ → Bool
later_good block number kind entries size =
    eqb (word_at block 2) number && eqb (byte_at block 0) kind && eqb (byte_at block 1) entries
    && all_zero (part_of block (4 + size * entries) (506 - size * entries))

-- the entries of block j of a kind: `each`, but in the last block what is left of the total
unfoldable pub entries_in : ℕ → ℕ → ℕ → ℕ
entries_in each total j = min each (total - each * j)

-- row 5: "later block: number, kind, entries or zero tail wrong", for block i of a file with so many links and prefixes
unfoldable pub sound_block : ℕ → ℕ → ℕ → Bytes → Bool
sound_block links prefixes i block =
    elim (leb i (link_blocks links)) [
      | true ↦ later_good block i 2 (entries_in 84 links (i - 1)) 6
      | false ↦ later_good block i 3 (entries_in 14 prefixes (i - 1 - link_blocks links)) 34
    ]

unfoldable pub block_good : Bytes → ℕ → Bool
block_good b i = sound_block (links_of b) (prefixes_of b) i (block_of b i)

-- row 6: "link: router not below N, a = b, or cost 0"
unfoldable pub sound_link : ℕ → Link → Bool
sound_link n (link a b ab ba) = ltb a n && ltb b n && not (eqb a b) && leb 1 ab && leb 1 ba

unfoldable pub link_good : Bytes → ℕ → Bool
link_good b k = sound_link (routers_of b) (link_of b k)

-- row 7: "link joins two routers an earlier link joins"
unfoldable pub join_same : Link → Link → Bool
join_same (link a b ab ba) (link c d cd dc) = (eqb a c && eqb b d) || (eqb a d && eqb b c)

unfoldable pub link_new : Bytes → ℕ → Bool
link_new b k = every_below (λ j. not (join_same (link_of b k) (link_of b j))) k

-- row 8: "prefix: attachments 0 or over 8, used router not below N, or the zero bytes or unused slots not zero"
unfoldable pub slot_good : ℕ → Bytes → ℕ → Bool
slot_good n entry s = ltb (slot_router entry s) n && eqb (byte_at entry (3 + 4 * s)) 0

unfoldable pub sound_prefix : ℕ → Bytes → Bool
sound_prefix n entry =
    leb 1 (attachments entry) && leb (attachments entry) 8 && eqb (byte_at entry 1) 0
    && every_below (slot_good n entry) (attachments entry) && all_zero (drop (2 + 4 * attachments entry) entry)

unfoldable pub prefix_good : Bytes → ℕ → Bool
prefix_good b k = sound_prefix (routers_of b) (prefix_entry b k)

-- row 9: "prefix names a router twice"
unfoldable pub slot_new : Bytes → ℕ → Bool
slot_new entry s = every_below (λ j. not (eqb (slot_router entry s) (slot_router entry j))) s

unfoldable pub routers_new : Bytes → ℕ → Bool
routers_new b k = every_below (slot_new (prefix_entry b k)) (attachments (prefix_entry b k))
