-- The cells of an area, and the distances as an area holds them.
-- Assumes nothing.
use Rattle.std.specs.Prelude.{ℕ, ◌+◌, ◌*◌, true, false, ◌&&◌, List, eqb, ltb, length, get_or}
use Rattle.lfa.specs.Distance.{unreachable}
use Rattle.metric.specs.Fit.{cells_fit}

-- the cell of row x and column t of an area of rows of n cells
abbrev pub area_cell : ℕ → List ℕ → ℕ → ℕ → ℕ
area_cell n area x t = get_or area (x * n + t) 0

-- D(x,t) as an area holds it for n routers: cell x × n + t. A number that is no router is 0 from itself and unreachable from others.
unfoldable pub held : ℕ → List ℕ → ℕ → ℕ → ℕ
held n area x t = elim (ltb x n && ltb t n) [ true ↦ get_or area (x * n + t) 0 | false ↦ elim (eqb x t) [ true ↦ 0 | false ↦ unreachable ] ]

-- D(x,t) as it is read for any numbers: unreachable, where the area has no cell for each two of n routers, or x or t is none of them
unfoldable pub cell_in : ℕ → List ℕ → ℕ → ℕ → ℕ
cell_in n area x t = elim (cells_fit n (length area) && (ltb x n && ltb t n)) [ true ↦ area_cell n area x t | false ↦ unreachable ]
