-- What the functions that put the links of a run into columns answer.
-- Assumes nothing.
use Rattle.std.specs.Prelude.{ℕ, ◌+◌, ◌*◌, ◌≤◌, ◌<◌, min, ◌≡◌, true, false, ◌||◌, List, [], ◌∷◌, eqb, get_or, length, drop}
use Rattle.lfa.specs.Network.{Link, link}
use Rattle.lfa.specs.File.{Bytes, part_of}
use Rattle.ospf.specs.Lsa.{be16, length_field, links_field}
use Rattle.metric.specs.declared.columns.Links.{Links}

-- the bytes of the LSA that begins at an offset
unfoldable pub lsa_from : Bytes → ℕ → Bytes
lsa_from b at = part_of b at (length_field (drop at b))

-- a whole LSA begins there, and its links are within it
pub record StandsAt (b : Bytes) (at : ℕ) : Type 0 where
  pub inside : at + be16 b (at + 18) ≤ length b
  pub some : 24 ≤ be16 b (at + 18)
  pub links : 24 + 12 * links_field (lsa_from b at) ≤ be16 b (at + 18)

-- the link of two metrics, where both are there: 0 stands for none
unfoldable pub link_if : (a b out back : ℕ) → List Link
link_if a b out back = elim (eqb out 0 || eqb back 0) [ true ↦ [] | false ↦ link a b out back ∷ [] ]

-- the columns hold the links of a list, as far as there is room, and `links` is how many there are, 129 where there are more than 128
pub record LinksHeld (held : List Link) (columns : Links) : Type 0 where
  pub count_is : columns.links ≡ min (length held) 129
  pub from_long : length columns.from ≡ 128
  pub to_long : length columns.to ≡ 128
  pub out_long : length columns.out ≡ 128
  pub back_long : length columns.back ≡ 128
  pub cells : (k : ℕ) → k < length held → k < 128 →
      link (get_or columns.from k 0) (get_or columns.to k 0) (get_or columns.out k 0) (get_or columns.back k 0) ≡ get_or held k (link 0 0 0 0)
