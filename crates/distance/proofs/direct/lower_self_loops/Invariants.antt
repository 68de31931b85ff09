-- The cells are lowered to the self-loops of the first x routers.
use Rattle.distance.specs.Cells.{Cells, cheapest, self_loops}
use Rattle.distance.proofs.direct.lower_self_loops.Given as goal

abbrev pub invariant-loop-x : goal.invariant-loop-x
invariant-loop-x l = Cells l.n (cheapest (self_loops l.x)) l.cells
