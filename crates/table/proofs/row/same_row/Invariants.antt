use Rattle.std.proofs.Common.{get_or}
use Rattle.metric.specs.Area.{area_cell}
use Rattle.table.specs.Sums.{SameCells}
use Rattle.table.proofs.row.same_row.Given as goal

abbrev pub invariant-loop-t : goal.invariant-loop-t
invariant-loop-t l = SameCells l.t (area_cell 64 l.cells l.x) (λ j. get_or l.sums j 0) l.same
