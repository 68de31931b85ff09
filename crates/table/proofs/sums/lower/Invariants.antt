use Rattle.table.specs.Sums.{form32, RowLowered}
use Rattle.table.proofs.sums.lower.Given as goal

abbrev pub invariant-loop-t : goal.invariant-loop-t
invariant-loop-t l = RowLowered (form32 l.n) l.a l.b l.cost l.t l.cells l.initial.sums l.sums
