use Rattle.table.specs.Sums.{RowsCopied}
use Rattle.table.proofs.narrow.copy_rows.Given as goal

abbrev pub invariant-loop-x : goal.invariant-loop-x
invariant-loop-x l = RowsCopied l.area.n l.x l.area.cells.now l.cells
