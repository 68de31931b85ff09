-- The answers about the cells, by the arcs that are kept and the rows of the copy.
-- Assumes nothing.
use Prim.Native.Nat.{ℕ, ◌≤◌, ◌<◌}
use mathlib.Core.Path.{◌≡◌}
use mathlib.Core.Bool.{Bool, true, false, false≢true}
use mathlib.Core.List.{List}
use native.Mathlib.Omega.{arith}
use Rattle.lfa.specs.Sound.{Within}
use Rattle.metric.specs.Fit.{ColumnsWithin}
use Rattle.metric.specs.Area.{area_cell}
use Rattle.metric.specs.Columns.{arcs_in}
use Rattle.metric.specs.RightTable.{RightTable}
use Rattle.metric.proofs.Laws.Columns.{columns_within}
use Rattle.table.specs.Calls.{costs_fit}
use Rattle.table.specs.Sums.{RowsCopied, Tested}
use Rattle.table.specs.Rows.{Over, Kept, Undercut, RowsTested}
use Rattle.table.proofs.ArcLaws.{HopIn, Copy, rows_right, right_rows}
use Rattle.table.proofs.KeepLaws.{kept_same, over_in, in_over}
use Rattle.table.proofs.CallLaws.{costs_some}

module _ {n links : ℕ} {from to : List ℕ} (w : ColumnsWithin n links from to) (out back : List ℕ) where
  within : Within (arcs_in from to out back links) n
  within = columns_within from to out back links n w

  -- An arc that costs less than its cell: no table with it is right, since the cell of the router that it leads to, from there, is 0.
  pub under_tested : {table : List ℕ} → Undercut (Over from to out back links) n table → Tested (arcs_in from to out back links) n table false
  under_tested {table} q = record { right = λ f. absurd (false≢true f); passes = λ right _. refuse right q }
    where
      refuse : RightTable (arcs_in from to out back links) n table → Undercut (Over from to out back links) n table → false ≡ true
      refuse right (x, z, c, o, u) =
          let m = (over_in from to out back links x z c o).1 in
          let hz = within.to m in
          absurd (omega (arith, right.slack z hz m, right.diagonal z hz))

  -- No arc does: the rows are right exactly where the table is.
  pub rows_tested : {table heads cells : List ℕ} {r : Bool} → costs_fit links out back ≡ true → ((x t : ℕ) → x < n → t < n → area_cell n table x t ≤ 8191) → RowsCopied n n table cells →
      Kept (Over from to out back links) n table heads → RowsTested n heads cells r → Tested (arcs_in from to out back links) n table r
  rows_tested {table} {heads} {cells} costs small copied q t = record { right = λ f. rows_right copy kept (t.right f); passes = λ right _. t.passes (right_rows copy kept right) }
    where
      copy : Copy (arcs_in from to out back links) n table cells
      copy = record { few = w.few_routers; within = within; some = λ m. costs_some links out back from to costs m; small = small; copied = copied }

      kept : Kept (HopIn (arcs_in from to out back links)) n table heads
      kept = kept_same (over_in from to out back links) (in_over from to out back links) q
