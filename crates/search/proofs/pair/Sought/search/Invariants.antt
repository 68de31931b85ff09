-- `best` is the first of the pairs of the first hops passed.
use Rattle.std.proofs.Common.{◌≡◌}
use Rattle.std.proofs.Math.Option.{none}
use Rattle.order.specs.Order.{earliest_in}
use Rattle.avoid.specs.Avoiding.{asked}
use Rattle.search.specs.Hops.{hops_in}
use Rattle.search.specs.Choice.{first_of, pairs_tried}
use Rattle.search.proofs.pair.Sought.search.Given as goal

abbrev pub invariant-loop-i : goal.invariant-loop-i
invariant-loop-i l =
    let s = l.self in
    let k = s.links.now in
    earliest_in l.best ≡ first_of none (pairs_tried s.ranks.now s.area.n (asked s.protected) s.area.cells.now s.target.now l.kept (hops_in k.from k.to k.out k.back l.i l.hops.arcs))
