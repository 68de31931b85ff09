use Rattle.metric.specs.Columns.{arcs_in}
use Rattle.table.specs.Sums.{form32, LeastSums}
use Rattle.table.proofs.sums.lower_links.Given as goal

-- the sums are lowered by both arcs of the links before k
abbrev pub invariant-loop-k : goal.invariant-loop-k
invariant-loop-k l = LeastSums (form32 l.links.routers) (arcs_in l.links.from l.links.to l.links.out l.links.back l.k) l.cells l.initial.sums l.sums
