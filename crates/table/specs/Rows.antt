-- The test of a table whose cells are small, in sums of 16 bits, row by row. Of the arcs only those are kept that cost what their cell
-- says: the set of a router holds the routers that they lead to. A row of the copied table then has to be the least sums over its set.
-- Assumes nothing.
use Rattle.std.specs.Prelude.{ℕ, ◌+◌, ◌≤◌, ◌<◌, min, ◌≡◌, ◌⊎◌, Bool, true, false, List, Option, MatchOption, length, get_or}
use Rattle.lfa.specs.Space.{has}
use Rattle.metric.specs.Area.{area_cell}

-- ---- the arcs

-- link j leads from x to z at cost c
abbrev pub Way : (from to out back : List ℕ) → (j x z c : ℕ) → Type 0
Way from to out back j x z c = ((x ≡ get_or from j 0) × (z ≡ get_or to j 0) × (c ≡ get_or out j 0)) ⊎ ((x ≡ get_or to j 0) × (z ≡ get_or from j 0) × (c ≡ get_or back j 0))

-- one of the first k links does
abbrev pub Over : (from to out back : List ℕ) → (k x z c : ℕ) → Type 0
Over from to out back k x z c = (j : ℕ) × (j < k) × Way from to out back j x z c

-- of some arcs none costs less than its cell, and those are kept that cost as much
pub record Kept (Hop : ℕ → ℕ → ℕ → Type 0) (n : ℕ) (table heads : List ℕ) : Type 0 where
  pub long : length heads ≡ 64
  pub each : (x z c : ℕ) → Hop x z c → (area_cell n table x z ≤ c) × (c ≡ area_cell n table x z → has (get_or heads x 0) z ≡ true)
  pub only : (x z : ℕ) → has (get_or heads x 0) z ≡ true → (c : ℕ) × Hop x z c × (c ≡ area_cell n table x z)

-- whether an arc costs as much as its cell or more; it is kept where it costs as much
pub record ArcKept (n a b cost : ℕ) (table before after : List ℕ) (r : Bool) : Type 0 where
  pub long : length after ≡ length before
  pub under : r ≡ false → cost < area_cell n table a b
  pub enough : r ≡ true → area_cell n table a b ≤ cost
  pub put : r ≡ true → cost ≡ area_cell n table a b → has (get_or after a 0) b ≡ true
  pub stays : (x z : ℕ) → has (get_or before x 0) z ≡ true → has (get_or after x 0) z ≡ true
  pub only : (x z : ℕ) → has (get_or after x 0) z ≡ true → (has (get_or before x 0) z ≡ true) ⊎ ((x ≡ a) × (z ≡ b) × (cost ≡ area_cell n table a b))

-- an arc costs less than its cell
abbrev pub Undercut : (Hop : ℕ → ℕ → ℕ → Type 0) → ℕ → List ℕ → Type 0
Undercut Hop n table = (x : ℕ) × (z : ℕ) × (c : ℕ) × Hop x z c × (c < area_cell n table x z)

-- the sets that hold the arcs that cost as much as their cells, or none, where an arc costs less
abbrev pub ArcsKept : (Hop : ℕ → ℕ → ℕ → Type 0) → ℕ → List ℕ → Option (List ℕ) → Type 0
ArcsKept Hop n table r = MatchOption r (Undercut Hop n table) (Kept Hop n table)

-- ---- the rows

-- the cells of a copy are small enough for sums of 16 bits
abbrev pub Little : List ℕ → Type 0
Little cells = (x t : ℕ) → x < 64 → t < 64 → area_cell 64 cells x t ≤ 16383

-- so are 64 sums
pub record LittleRow (sums : List ℕ) : Type 0 where
  pub long : length sums ≡ 64
  pub most : (t : ℕ) → t < 64 → get_or sums t 0 ≤ 16383

-- the first m sums were lowered to a cost plus the cells of row head, and the others are as they were
pub record SumsLowered (cost head m : ℕ) (cells before after : List ℕ) : Type 0 where
  pub long : length after ≡ length before
  pub low : (t : ℕ) → t < m → get_or after t 0 ≡ min (get_or before t 0) (cost + area_cell 64 cells head t)
  pub rest : (t : ℕ) → m ≤ t → get_or after t 0 ≡ get_or before t 0

-- row x is the least sums over the routers of a set: 0 in column x, no sum undercuts a cell, and each cell that is not unreachable is shown
-- by a router of the set
pub record RowRight (x heads : ℕ) (cells : List ℕ) : Type 0 where
  pub self : area_cell 64 cells x x ≡ 0
  pub slack : (h t : ℕ) → h < 64 → t < 64 → has heads h ≡ true → area_cell 64 cells x t ≤ area_cell 64 cells x h + area_cell 64 cells h t
  pub shown : (t : ℕ) → t < 64 →
      (x ≡ t) ⊎ ((area_cell 64 cells x t ≡ 16383) ⊎ ((h : ℕ) × (h < 64) × (has heads h ≡ true) × (area_cell 64 cells x h + area_cell 64 cells h t ≡ area_cell 64 cells x t)))

-- whether it is
pub record RowTested (x heads : ℕ) (cells : List ℕ) (r : Bool) : Type 0 where
  pub right : r ≡ true → RowRight x heads cells
  pub passes : RowRight x heads cells → r ≡ true

-- the first n rows are
abbrev pub RowsRight : ℕ → (heads cells : List ℕ) → Type 0
RowsRight n heads cells = (x : ℕ) → x < n → RowRight x (get_or heads x 0) cells

-- whether they are
pub record RowsTested (n : ℕ) (heads cells : List ℕ) (r : Bool) : Type 0 where
  pub right : r ≡ true → RowsRight n heads cells
  pub passes : RowsRight n heads cells → r ≡ true
