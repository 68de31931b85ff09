-- Each router's set holds its next routers over the links passed.
use Rattle.std.proofs.Common.{◌≡◌, get_or}
use Rattle.metric.specs.Columns.{arcs_in}
use Rattle.steps.specs.Steps.{nexts_in}
use Rattle.steps.proofs.Walks.nexts_over.Given as goal

abbrev pub invariant-loop-k : goal.invariant-loop-k
invariant-loop-k l = l.nexts ≡ nexts_in l.self.ends (λ y. get_or l.self.target.now y 0) (arcs_in l.links.from l.links.to l.links.out l.links.back l.k)
