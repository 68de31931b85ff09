use Rattle.table.specs.Rows.{SumsLowered}
use Rattle.table.proofs.row.lower.Given as goal

abbrev pub invariant-loop-t : goal.invariant-loop-t
invariant-loop-t l = SumsLowered l.cost l.head l.t l.cells l.initial.sums l.sums
