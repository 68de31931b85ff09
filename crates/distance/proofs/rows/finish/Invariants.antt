-- The first cells stand as at the end.
use Rattle.std.proofs.Common.{get_or}
use Rattle.distance.specs.Cells.{Stored, finished}
use Rattle.distance.proofs.rows.finish.Given as goal

abbrev pub invariant-loop-cell : goal.invariant-loop-cell
invariant-loop-cell l = Stored l.cell-index (λ j. finished (get_or l.fn.cells j 0)) l.fn.cells l.cells
