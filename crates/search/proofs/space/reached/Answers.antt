use Rattle.std.proofs.Common.{◌<◌, length, arith}
use Rattle.avoid.specs.Avoiding.{asked}
use Rattle.search.proofs.SpaceLaws.{none_reached, hop_reached}
use Rattle.search.proofs.space.reached.Goals as goal

pub loop-i-init : goal.loop-i-init
loop-i-init c = none_reached _ _ _ _ _ _ _

pub loop-i-preserved : goal.loop-i-preserved
loop-i-preserved c =
    let a = c.args in
    let l = c.loop-i in
    let h : l.i < length l.sets = omega arith in
    hop_reached a.area.now.n (asked a.protected) a.area.now.cells.now a.links.now.from a.links.now.to a.hops.now.arcs l.i c.head_of-hop.ensures c.avoiding_from-one.ensures l.sets h l.invariant
