-- The copy of a table for sums of 16 bits, cell by cell and row by row.
-- Assumes nothing.
use Prim.Native.Nat.{ℕ, ◌+◌, ◌*◌, ◌≤◌, ◌<◌}
use mathlib.Core.Path.{◌≡◌, ◌∙◌}
use mathlib.Core.Logic.{inl, inr, ⊎_elim}
use mathlib.Core.List.{List}
use native.Mathlib.Omega.{arith}
use native.Mathlib.Decide.{ℕ_discrete, dec_lt}
use lib.Arith.{digits_lt}
use lib.Bits.{bit_or, or_add_and, and_le_l, and_le_r}
use Rattle.std.proofs.lemmas.List.{length-take-le, get_or-take}
use lib.ListN.{length, get_or, take, replicate, length-replicate, get_or-replicate}
use Rattle.metric.specs.Area.{area_cell}
use Rattle.table.specs.Sums.{AtMost, RowCopied, RowsCopied}
use Rattle.table.specs.Rows.{Little}

-- ---- the largest cell

-- one cell more: a bitwise or is at least each of the two
pub most_more : (m all : ℕ) (table : List ℕ) → AtMost m table all → AtMost (m + 1) table (bit_or all (get_or table m 0))
most_more m all table q i h = go (ℕ_discrete i m)
  where
    v : ℕ
    v = get_or table m 0

    or_most : (all ≤ bit_or all v) × (v ≤ bit_or all v)
    or_most = omega (arith, or_add_and all v, and_le_l all v, and_le_r all v)

    go : Dec (i ≡ m) → get_or table i 0 ≤ bit_or all v
    go (yes e) = rw e or_most.1
    go (no e) = omega (arith, or_most.0, q i (omega arith))

-- ---- the rows

-- cells of two rows of a copy are apart
apart : {x t m n : ℕ} → t < 64 → n ≤ 64 → (x ≡ m → n ≤ t) → m * 64 ≤ x * 64 + t → m * 64 + n ≤ x * 64 + t
apart {x} {t} {m} {n} ht few ne h = go (ℕ_discrete x m)
  where
    go : Dec (x ≡ m) → m * 64 + n ≤ x * 64 + t
    go (yes e) = omega (arith, ne e)
    go (no e) = omega arith

pub rows_none : (n : ℕ) (table : List ℕ) → RowsCopied n 0 table (replicate 4096 16383)
rows_none n table = record {
  long = length-replicate {A = ℕ} 4096 16383;
  cell = λ x t h. absurd (omega arith);
  rest = λ x t hx ht _. get_or-replicate 4096 (x * 64 + t) 16383 0 (omega arith);
}

-- one row more
pub rows_more : {n m : ℕ} {table before after : List ℕ} → n ≤ 64 → RowsCopied n m table before → RowCopied n (m * n) (m * 64) table before after → RowsCopied n (m + 1) table after
rows_more {n} {m} {table} {before} {after} few q row = record {
  long = row.long ∙ q.long;
  cell = λ x t hx ht. cell x t hx ht (ℕ_discrete x m);
  rest = λ x t hx ht o. kept x t ht (λ e. ⊎_elim (λ h. absurd (omega arith)) (λ h. h) o) ∙ q.rest x t hx ht (⊎_elim (λ h. inl (omega arith)) inr o);
}
  where
    kept : (x t : ℕ) → t < 64 → (x ≡ m → n ≤ t) → area_cell 64 after x t ≡ area_cell 64 before x t
    kept x t ht ne = row.rest (x * 64 + t) (λ h. apart ht few ne h)

    cell : (x t : ℕ) → x < m + 1 → t < n → Dec (x ≡ m) → area_cell 64 after x t ≡ area_cell n table x t
    cell x t hx ht (yes e) = rw e (row.cell t ht)
    cell x t hx ht (no e) = kept x t (omega arith) (λ s. absurd (e s)) ∙ q.cell x t (omega arith) ht

-- ---- the copy

module _ {n : ℕ} {table cells : List ℕ} (few : n ≤ 64) (most : (x t : ℕ) → x < n → t < n → area_cell n table x t ≤ 8191) (q : RowsCopied n n table cells) where
  pub rows_little : Little cells
  rows_little x t hx ht = go (dec_lt x n) (dec_lt t n)
    where
      go : Dec (x < n) → Dec (t < n) → area_cell 64 cells x t ≤ 16383
      go (yes k) (yes l) = omega (arith, q.cell x t k l, most x t k l)
      go (yes k) (no l) = omega (arith, q.rest x t hx ht (inr (omega arith)))
      go (no k) _ = omega (arith, q.rest x t hx ht (inl (omega arith)))

-- no cell is above the bits of all cells
pub all_small : {m all : ℕ} (table : List ℕ) → m ≤ length table → AtMost (length (take m table)) (take m table) all → all ≤ 8191 → AtMost m table 8191
all_small {m} table long most h i k = omega (arith, most i (omega (arith, length-take-le m table long)), get_or-take m table i 0 k)

pub cells_small : {n : ℕ} (table : List ℕ) → AtMost (n * n) table 8191 → (x t : ℕ) → x < n → t < n → area_cell n table x t ≤ 8191
cells_small {n} table most x t hx ht = most (x * n + t) (digits_lt hx ht)
