-- The cells before the count hold the first hops among the arcs of the links passed.
use Rattle.std.proofs.Common.{◌*◌}
use Rattle.avoid.specs.Avoiding.{asked}
use Rattle.search.proofs.HopLaws.{FirstsFound}
use Rattle.search.proofs.hops.first_hops.Given as goal

abbrev pub invariant-loop-k : goal.invariant-loop-k
invariant-loop-k l = FirstsFound (asked l.protected) l.links.from l.links.to l.links.out l.links.back (2 * l.k) l.hops.count l.hops.arcs
