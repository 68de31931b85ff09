-- What the public functions answer for any numbers: where no distances can be read for them, the set is empty.
-- Assumes nothing.
use Rattle.std.specs.Prelude.{ℕ, ◌*◌, ◌≤◌, ◌<◌, Bool, true, false, ◌&&◌, List, ltb, length}
use Rattle.lfa.specs.Space.{Protected, set_of}
use Rattle.metric.specs.Fit.{cells_fit}
use Rattle.metric.specs.Area.{held}
use Rattle.avoid.specs.Avoiding.{clears, clears_to, misses_to}

-- the area has a cell for each two of at most 64 routers, and the ends of the protected link are routers
pub record Readable (n : ℕ) (q : Protected) (area : List ℕ) : Type 0 where
  pub few : n ≤ 64
  pub long : n * n ≤ length area
  pub near_in : q.near < n
  pub far_in : q.far < n

-- and the test of it, by the number of cells
unfoldable pub readable : (n : ℕ) → Protected → (cells : ℕ) → Bool
readable n q cells = cells_fit n cells && (ltb q.near n && ltb q.far n)

-- the routers that avoid the link on the way to a target, by the distances; `left` and `target` give the distances to it, on the left side and in the sums
unfoldable pub avoiding_to : (n : ℕ) → Protected → (left : ℕ → ℕ) → (sums : List ℕ) → (target : ℕ → ℕ) → ℕ
avoiding_to n q left sums target = elim (readable n q (length sums)) [ true ↦ set_of n (clears left (held n sums) q target) | false ↦ 0 ]

-- the routers that x avoids the link on the way to; `left` and `sums` are the areas of the distances on the left side and in the sums
unfoldable pub avoiding_from : (n : ℕ) → Protected → (left sums : List ℕ) → (x : ℕ) → ℕ
avoiding_from n q left sums x =
    elim (readable n q (length left) && readable n q (length sums) && ltb x n) [ true ↦ set_of n (clears_to (held n left) (held n sums) q x) | false ↦ 0 ]

-- the routers that x reaches and to which no shortest path visits router v
unfoldable pub missing_from : (n v : ℕ) → (area : List ℕ) → (x : ℕ) → ℕ
missing_from n v area x = elim (cells_fit n (length area) && ltb v n && ltb x n) [ true ↦ set_of n (misses_to (held n area) v x) | false ↦ 0 ]
