use Rattle.std.proofs.Common.{◌≡◌, arith}
use Rattle.table.proofs.CallLaws.{costs_told}
use Rattle.table.proofs.costs.costs_fit.Goals as goal

pub returns : goal.returns
returns c = let e : c.loop-k.k ≡ c.args.links.now.links = omega arith in costs_told _ _ _ (rw e at c.loop-k.invariant)
