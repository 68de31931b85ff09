-- The rows after row k are lowered, up to row i.
use Rattle.std.proofs.Common.{◌+◌}
use Rattle.metric.specs.Area.{area_cell}
use Rattle.distance.specs.Cells.{RowsLowered}
use Rattle.distance.proofs.rows.lower_later.Given as goal

abbrev pub invariant-loop-i : goal.invariant-loop-i
invariant-loop-i l = RowsLowered l.n l.k (l.k + 1) l.i (λ x. area_cell l.n l.weights x l.k) l.fn.cells l.cells
