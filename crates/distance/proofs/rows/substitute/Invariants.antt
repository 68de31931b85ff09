-- The rows of the first k routers are substituted.
use Rattle.distance.specs.Cells.{Substituted}
use Rattle.distance.proofs.rows.substitute.Given as goal

abbrev pub invariant-loop-k : goal.invariant-loop-k
invariant-loop-k l = Substituted l.n l.k l.fn.cells l.cells
