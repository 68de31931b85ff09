-- The routers from k on are eliminated.
use Rattle.distance.specs.Cells.{Eliminated}
use Rattle.distance.proofs.rows.eliminate.Given as goal

abbrev pub invariant-loop-k : goal.invariant-loop-k
invariant-loop-k l = Eliminated l.n l.k l.fn.cells l.cells
