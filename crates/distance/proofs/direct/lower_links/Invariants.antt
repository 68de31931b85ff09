-- The cells are lowered to the costs of the first k links.
use Rattle.std.proofs.Common.{◌++◌}
use Rattle.metric.specs.Columns.{arcs_in}
use Rattle.distance.specs.Cells.{Cells, cheapest, self_loops, CostsCapped}
use Rattle.distance.proofs.direct.lower_links.Given as goal

abbrev pub invariant-loop-k : goal.invariant-loop-k
invariant-loop-k l =
    let arcs = arcs_in l.links.from l.links.to l.links.out l.links.back l.k in
    CostsCapped arcs × Cells l.links.routers (cheapest (self_loops l.links.routers ++ arcs)) l.cells
