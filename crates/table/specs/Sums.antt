-- The test of a table: a cell off the diagonal is to be the least sum, over the arcs that leave its row's router, of the arc's cost and
-- the cell of the router that the arc leads to. Other numbers stand for the cells in sums: these are small enough for sums of 32 bits.
-- Assumes nothing.
use Rattle.std.specs.Prelude.{ℕ, ◌+◌, ◌≤◌, ◌<◌, min, ◌≡◌, ◌⊎◌, Bool, true, length, get_or}
use mathlib.Core.List.{List, Memᴰ}
use Rattle.lfa.specs.Network.{Arc, arc}
use Rattle.lfa.specs.Distance.{unreachable}
use Rattle.metric.specs.Area.{area_cell}
use Rattle.metric.specs.RightTable.{RightTable}

-- ---- the forms of the sums

-- a finite cell is at most the longest, the limit stands for unreachable, a hop that costs more than the top counts as the top, and a row
-- has so many cells
pub record Form : Type 0 where
  pub longest : ℕ
  pub limit : ℕ
  pub top : ℕ
  pub width : ℕ

-- "a real one is at most 4,194,240"
abbrev pub largest : ℕ
largest = 4194240

-- sums of 32 bits, in rows of n cells: every distance of a network may stand in them
abbrev pub form32 : ℕ → Form
form32 n = record { longest = largest; limit = 1073741824; top = 65535; width = n }

-- the cell of row x and column t
abbrev pub cell_of : Form → List ℕ → ℕ → ℕ → ℕ
cell_of f cells x t = area_cell f.width cells x t

-- ---- what stands for a cell in sums

-- for a cell that may be a distance
pub data Real (longest limit d s : ℕ) : Type 0 where
  finite : d ≤ longest → s ≡ d → Real longest limit d s
  infinite : d ≡ unreachable → s ≡ limit → Real longest limit d s

-- for any cell: for a number that is no distance of any network it is one that no least sum is
pub data Stands (longest limit d s : ℕ) : Type 0 where
  real : Real longest limit d s → Stands longest limit d s
  wrong : largest < d → (d ≡ unreachable → ⊥) → s ≡ limit + 1 → Stands longest limit d s

-- numbers for the cells of n routers, and the limit in the cells that are not used
pub record Copied (f : Form) (n : ℕ) (table cells : List ℕ) : Type 0 where
  pub few : n ≤ f.width
  pub stands : (x t : ℕ) → x < n → t < n → Stands f.longest f.limit (area_cell n table x t) (cell_of f cells x t)
  pub rest : (x t : ℕ) → x < f.width → t < f.width → (n ≤ x) ⊎ (n ≤ t) → cell_of f cells x t ≡ f.limit

-- rows of at most 64 cells, none larger than what may stand for a cell, in an array of 4096
pub record Limited (f : Form) (cells : List ℕ) : Type 0 where
  pub few : f.width ≤ 64
  pub long : length cells ≡ 4096
  pub small : (x t : ℕ) → x < f.width → t < f.width → cell_of f cells x t ≤ f.limit + 1

-- the first cells of a table, copied for sums of 32 bits
pub record Summands (count : ℕ) (table cells : List ℕ) : Type 0 where
  pub long : length cells ≡ 4096
  pub cell : (i : ℕ) → i < count → Stands largest 1073741824 (get_or table i 0) (get_or cells i 0)

-- none of the first cells is above a number
abbrev pub AtMost : ℕ → List ℕ → ℕ → Type 0
AtMost count table m = (i : ℕ) → i < count → get_or table i 0 ≤ m

-- so many cells of a table, from a place on, copied to another place; the other cells are as they were
pub record RowCopied (count by place : ℕ) (table before after : List ℕ) : Type 0 where
  pub long : length after ≡ length before
  pub cell : (t : ℕ) → t < count → get_or after (place + t) 0 ≡ get_or table (by + t) 0
  pub rest : (i : ℕ) → (place ≤ i → place + count ≤ i) → get_or after i 0 ≡ get_or before i 0

-- the first m rows of n cells, copied to rows of 64 cells; the other cells hold the limit
pub record RowsCopied (n m : ℕ) (table cells : List ℕ) : Type 0 where
  pub long : length cells ≡ 4096
  pub cell : (x t : ℕ) → x < m → t < n → area_cell 64 cells x t ≡ area_cell n table x t
  pub rest : (x t : ℕ) → x < 64 → t < 64 → (m ≤ x) ⊎ (n ≤ t) → area_cell 64 cells x t ≡ 16383

-- ---- the sums

-- 0 on the diagonal before row m, and the limit in all other cells
pub record Cleared (f : Form) (m : ℕ) (sums : List ℕ) : Type 0 where
  pub long : length sums ≡ 4096
  pub diagonal : (x : ℕ) → x < m → x < f.width → cell_of f sums x x ≡ 0
  pub rest : (x t : ℕ) → x < f.width → t < f.width → (x ≡ t → m ≤ x) → cell_of f sums x t ≡ f.limit

-- the first m sums of row a were lowered to the cost of an arc from a to b plus the cells of row b, and the others are as they were
pub record RowLowered (f : Form) (a b cost m : ℕ) (cells before after : List ℕ) : Type 0 where
  pub long : length after ≡ length before
  pub low : (t : ℕ) → t < m → cell_of f after a t ≡ min (cell_of f before a t) (min cost f.top + cell_of f cells b t)
  pub rest : (x t : ℕ) → t < f.width → (x ≡ a → m ≤ t) → cell_of f after x t ≡ cell_of f before x t

-- an arc's cost and the cell of the router that it leads to make up sum (x, t)
abbrev pub Summed : Form → List Arc → (cells sums : List ℕ) → ℕ → ℕ → Type 0
Summed f hops cells sums x t = (z : ℕ) × (c : ℕ) × (l : ℕ) × Memᴰ (arc x z c l) hops × (min c f.top + cell_of f cells z t ≡ cell_of f sums x t)

-- the least sums over some arcs: no sum is above what it was at first, and each that is below that is made up
pub record LeastSums (f : Form) (hops : List Arc) (cells first sums : List ℕ) : Type 0 where
  pub long : length sums ≡ length first
  pub capped : {x z c l : ℕ} → Memᴰ (arc x z c l) hops → c ≤ 65535
  pub falls : (x t : ℕ) → t < f.width → cell_of f sums x t ≤ cell_of f first x t
  pub bound : {x z c l : ℕ} (t : ℕ) → t < f.width → Memᴰ (arc x z c l) hops → cell_of f sums x t ≤ min c f.top + cell_of f cells z t
  pub shown : (x t : ℕ) → t < f.width → (cell_of f sums x t ≡ cell_of f first x t) ⊎ Summed f hops cells sums x t

-- ---- the answer

-- so many numbers are the same
abbrev pub Same : ℕ → (f g : ℕ → ℕ) → Type 0
Same count f g = (i : ℕ) → i < count → f i ≡ g i

-- whether they are
pub record SameCells (count : ℕ) (f g : ℕ → ℕ) (r : Bool) : Type 0 where
  pub holds : r ≡ true → Same count f g
  pub told : Same count f g → r ≡ true

-- each finite cell of the table is at most the largest real distance
abbrev pub Small : ℕ → List ℕ → Type 0
Small n table = (x t : ℕ) → x < n → t < n → area_cell n table x t < unreachable → area_cell n table x t ≤ largest

-- each arc costs at most what 16 bits hold
pub record Capped (hops : List Arc) : Type 0 where
  pub most : {x z c l : ℕ} → Memᴰ (arc x z c l) hops → c ≤ 65535

-- whether the table is right
pub record Tested (hops : List Arc) (n : ℕ) (table : List ℕ) (r : Bool) : Type 0 where
  pub right : r ≡ true → RightTable hops n table
  pub passes : RightTable hops n table → (Capped hops → Small n table) → r ≡ true
