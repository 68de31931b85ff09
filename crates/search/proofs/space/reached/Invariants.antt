-- The sets of the first hops passed are stored, and `union` is their union.
use Rattle.avoid.specs.Avoiding.{asked}
use Rattle.search.specs.Spaces.{Reached}
use Rattle.search.proofs.space.reached.Given as goal

abbrev pub invariant-loop-i : goal.invariant-loop-i
invariant-loop-i l = Reached l.area.n (asked l.protected) l.area.cells.now l.links.from l.links.to l.i l.hops.arcs l.sets l.union
