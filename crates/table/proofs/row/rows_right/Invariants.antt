use Rattle.table.specs.Rows.{RowsRight}
use Rattle.table.proofs.row.rows_right.Given as goal

abbrev pub invariant-loop-x : goal.invariant-loop-x
invariant-loop-x l = RowsRight l.x l.heads l.cells
