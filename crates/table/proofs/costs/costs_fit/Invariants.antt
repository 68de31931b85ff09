use Rattle.table.proofs.CallLaws.{LeastCost}
use Rattle.table.proofs.costs.costs_fit.Given as goal

-- the least cost of the links before k
abbrev pub invariant-loop-k : goal.invariant-loop-k
invariant-loop-k l = LeastCost l.k l.links.out l.links.back l.least
