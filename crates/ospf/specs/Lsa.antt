-- One Router-LSA (RFC 2328, A.4.1 and A.4.2): its fields, what it says, and the tests of number 16 on its bytes.
-- Assumes nothing.
use Rattle.std.specs.Prelude.{ℕ, ◌+◌, ◌*◌, ◌%◌, ◌≤◌, ◌<◌, ◌≡◌, Bool, not, ◌&&◌, ◌||◌, List, [], ◌∷◌, map, eqb, leb, length, drop}
use Rattle.lfa.specs.Lists.{below, every_below}
use Rattle.lfa.specs.File.{Bytes, byte_at}

-- ---- fields: OSPF writes numbers with the most significant byte first

unfoldable pub be16 : Bytes → ℕ → ℕ
be16 b k = 256 * byte_at b k + byte_at b (k + 1)

unfoldable pub be32 : Bytes → ℕ → ℕ
be32 b k = 65536 * be16 b k + be16 b (k + 2)

-- ---- what a Router-LSA says

-- one of its links: Link ID, Link Data, type, number of TOS metrics, metric. Type 1 is point-to-point: the Link ID is the neighbour's
-- Link State ID. Type 3 is a stub network: the Link ID is the network, the Link Data its mask.
pub data Entry : Type 0 where
  entry : (id info kind tos metric : ℕ) → Entry

-- the LSA of a router, which its Link State ID names, with its links in order
pub data Lsa : Type 0 where
  lsa : (router : ℕ) (entries : List Entry) → Lsa

-- ---- the bytes of one LSA
-- RFC 2328, A.4.1, the header: 0 LS age, 2 options, 3 LS type, 4 Link State ID, 8 advertising router, 12 sequence number, 16 checksum,
-- 18 length. A.4.2, a Router-LSA: 20 flags, 22 number of links, and from 24 on 12 bytes for each link that has no TOS metric: 0 Link ID,
-- 4 Link Data, 8 type, 9 number of TOS metrics, 10 metric.

unfoldable pub length_field : Bytes → ℕ
length_field l = be16 l 18

unfoldable pub router_field : Bytes → ℕ
router_field l = be32 l 4

unfoldable pub links_field : Bytes → ℕ
links_field l = be16 l 22

-- link k
unfoldable pub entry_at : Bytes → ℕ → Entry
entry_at l k =
    entry (be32 l (24 + 12 * k)) (be32 l (28 + 12 * k)) (byte_at l (32 + 12 * k)) (byte_at l (33 + 12 * k)) (be16 l (34 + 12 * k))

unfoldable pub lsa_in : Bytes → Lsa
lsa_in l = lsa (router_field l) (map (entry_at l) (below (links_field l)))

-- ---- the tests of number 16 on the bytes of one LSA: each passes where its cause does not apply

-- "one cut short": the bytes are as many as its length field says, and the fields before the links are among them
unfoldable pub whole_good : Bytes → Bool
whole_good l = leb 24 (length l) && eqb (length_field l) (length l)

-- "of a length that its links don't fill"
unfoldable pub filled_good : Bytes → Bool
filled_good l = eqb (length l) (24 + 12 * links_field l)

-- "of another type": LS type 1 is a Router-LSA
unfoldable pub type_good : Bytes → Bool
type_good l = eqb (byte_at l 3) 1

-- the two Fletcher sums
pub data Sums : Type 0 where
  sums : (c₀ c₁ : ℕ) → Sums

-- c₀ goes up by each byte, c₁ by each new c₀, modulo 255 (RFC 905, Annex B, which RFC 2328, 12.1.7 cites)
unfoldable pub fletcher : ℕ → ℕ → Bytes → Sums
fletcher c₀ c₁ [] = sums c₀ c₁
fletcher c₀ c₁ (x ∷ b) = fletcher ((c₀ + x) % 255) ((c₁ + (c₀ + x) % 255) % 255) b

unfoldable pub both_zero : Sums → Bool
both_zero (sums c₀ c₁) = eqb c₀ 0 && eqb c₁ 0

-- "an LSA checksum that is zero or leaves Fletcher sums not both 0 modulo 255"; RFC 2328, 12.1.7: the sums run over the LSA without its age
unfoldable pub checksum_good : Bytes → Bool
checksum_good l = not (eqb (be16 l 16) 0) && both_zero (fletcher 0 0 (drop 2 l))

-- "a TOS metric"; "Links of another type, point-to-point links with metric 0 or to the router itself"
unfoldable pub sound_entry : ℕ → Entry → Bool
sound_entry router (entry id info kind tos metric) =
    eqb tos 0 && (eqb kind 3 || (eqb kind 1 && not (eqb metric 0) && not (eqb id router)))

unfoldable pub entry_good : Bytes → ℕ → Bool
entry_good l k = sound_entry (router_field l) (entry_at l k)

-- two point-to-point links to one router
unfoldable pub same_neighbour : Entry → Entry → Bool
same_neighbour (entry id info kind tos metric) (entry id' info' kind' tos' metric') = eqb kind 1 && eqb kind' 1 && eqb id id'

-- "and, for now, several point-to-point links to one router in an LSA": link k is none of them for an earlier link
unfoldable pub entry_new : Bytes → ℕ → Bool
entry_new l k = every_below (λ j. not (same_neighbour (entry_at l k) (entry_at l j))) k

-- an LSA that no cause of number 16 makes bad by itself; "other fields, LS age too, turn nothing away"
unfoldable pub sound_lsa : Bytes → Bool
sound_lsa l =
    whole_good l && filled_good l && type_good l && checksum_good l
    && every_below (entry_good l) (links_field l) && every_below (entry_new l) (links_field l)

-- ---- the same in words (`Laws.Lsa.sound_gives`, `sound_make`)

-- a link is point-to-point or stub and has no TOS metric; a point-to-point one has a metric and leads to another router
pub data SoundEntry (router : ℕ) : Entry → Type 0 where
  point_to_point : {id info metric : ℕ} → 1 ≤ metric → (id ≡ router → ⊥) → SoundEntry router (entry id info 1 0 metric)
  stub : {id info metric : ℕ} → SoundEntry router (entry id info 3 0 metric)

-- not two point-to-point links to one router
abbrev pub Apart : Entry → Entry → Type 0
Apart (entry id info kind tos metric) (entry id' info' kind' tos' metric') = kind ≡ 1 → kind' ≡ 1 → id ≡ id' → ⊥

-- a sound LSA: whole, filled by its links, of type 1, its checksum right, its links sound and each to another router
pub record SoundLsa (l : Bytes) : Type 0 where
  pub fields : 24 ≤ length l
  pub uncut : length_field l ≡ length l
  pub filled : length l ≡ 24 + 12 * links_field l
  pub type : byte_at l 3 ≡ 1
  pub checksum_some : be16 l 16 ≡ 0 → ⊥
  pub checksum : fletcher 0 0 (drop 2 l) ≡ sums 0 0
  pub entries : (k : ℕ) → k < links_field l → SoundEntry (router_field l) (entry_at l k)
  pub neighbours : (j k : ℕ) → j < k → k < links_field l → Apart (entry_at l j) (entry_at l k)
