-- The first i rows are lowered.
use Rattle.metric.specs.Area.{area_cell}
use Rattle.distance.specs.Cells.{RowsLowered}
use Rattle.distance.proofs.rows.lower_earlier.Given as goal

abbrev pub invariant-loop-i : goal.invariant-loop-i
invariant-loop-i l = RowsLowered l.n l.k 0 l.i (λ x. area_cell l.n l.fn.cells x l.k) l.fn.cells l.cells
