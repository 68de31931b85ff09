-- "Distances and walks", first half: D(x,t) and D(x,p), the unreachable distance, and the contents of the work area.
-- Assumes nothing.
use Rattle.std.specs.Prelude.{ℕ, zero, suc, ◌+◌, ◌*◌, ◌≤◌, ◌<◌, min, ◌≡◌, Bool, true, false, ◌&&◌, eqb, leb, length, get_or, drop}
use mathlib.Core.List.{List, [], ◌∷◌, ◌++◌, map, Memᴰ}
use Rattle.lfa.specs.Lists.{Table, table, cell, flat, every_below}
use Rattle.lfa.specs.Network.{Arc, arc, Attachment, at, Target, Network, arcs}

-- ---- the meaning

-- "The unreachable distance has one name and is 4,294,967,295"
abbrev pub unreachable : ℕ
unreachable = 4294967295

-- a path from router x to router t, and the sum of its link costs
pub data RouterPath (hops : List Arc) : ℕ → ℕ → ℕ → Type 0 where
  stay : {x : ℕ} → RouterPath hops x x 0
  via : {x z t c l k : ℕ} → Memᴰ (arc x z c l) hops → RouterPath hops z t k → RouterPath hops x t (c + k)

-- "D(x,t) is the least sum of link costs over all paths from router x to router t", and `unreachable` where there is none
pub record LeastCosts (hops : List Arc) (d : ℕ → ℕ → ℕ) : Type 0 where
  pub least : {x t k : ℕ} → RouterPath hops x t k → d x t ≤ k
  pub path : (x t : ℕ) → d x t < unreachable → RouterPath hops x t (d x t)
  pub most : (x t : ℕ) → d x t ≤ unreachable

-- the least of some numbers, and `unreachable` where none is below it
unfoldable pub least : List ℕ → ℕ
least [] = unreachable
least (x ∷ xs) = min x (least xs)

-- D(x,a) plus a's cost to the prefix
unfoldable pub cost_over : (ℕ → ℕ) → Attachment → ℕ
cost_over dx (at a c) = dx a + c

-- "D(x,p) is the least of D(x,a) plus a's cost to p over its attachments a". Towards a router t it is D(x,t).
unfoldable pub towards : (ℕ → ℕ → ℕ) → Target → ℕ → ℕ
towards d to x = least (map (cost_over (d x)) to)

-- ---- the computation: paths that pass only through routers below k, for k from 0 to N

-- the cost of an arc from x to z
unfoldable pub hop_cost : ℕ → ℕ → Arc → ℕ
hop_cost x z (arc u v c l) = elim (eqb u x && eqb v z) [ true ↦ c | false ↦ unreachable ]

-- the least cost of at most one hop
unfoldable pub direct : List Arc → ℕ → ℕ → ℕ
direct hops x z = elim (eqb x z) [ true ↦ 0 | false ↦ least (map (hop_cost x z) hops) ]

-- the least costs when router k may be passed through too
unfoldable pub through : ℕ → ℕ → Table → Table
through n k t = table n (λ i j. min (cell unreachable t i j) (cell unreachable t i k + cell unreachable t k j))

-- the least costs of the paths that pass only through routers below k
unfoldable pub stage : ℕ → List Arc → ℕ → Table
stage n hops zero = table n (direct hops)
stage n hops (suc k) = through n k (stage n hops k)

-- the N × N router distances, row = start
unfoldable pub distances : Network → Table
distances net = stage net.routers (arcs net) net.routers

-- D(x,t), read from the table: "D(x,x) is 0", and a number that is no router is unreachable
unfoldable pub distance_in : Table → ℕ → ℕ → ℕ
distance_in t x y = elim (eqb x y) [ true ↦ 0 | false ↦ cell unreachable t x y ]

-- ---- the work area

-- "The work area receives the N × N router distances, row by row, row = start, as 32-bit cells; later cells are untouched."
unfoldable pub filled : Network → List ℕ → List ℕ
filled net area = flat (distances net) ++ drop (net.routers * net.routers) area

-- ---- a lent table

-- Point 7: "its first N × N cells are the file's distances", row by row, row = start
pub record HoldsDistances (net : Network) (cells : List ℕ) : Type 0 where
  pub enough : net.routers * net.routers ≤ length cells
  pub each : (x t : ℕ) → x < net.routers → t < net.routers → get_or cells (x * net.routers + t) 0 ≡ distance_in (distances net) x t

-- and the test of it
unfoldable pub cells_hold : (n : ℕ) → Table → List ℕ → Bool
cells_hold n d cells = leb (n * n) (length cells) && every_below (λ x. every_below (λ t. eqb (get_or cells (x * n + t) 0) (distance_in d x t)) n) n

unfoldable pub holds_distances : Network → List ℕ → Bool
holds_distances net cells = let d : Table = distances net in cells_hold net.routers d cells
