use Rattle.std.proofs.Common.{arith}
use Rattle.avoid.specs.Avoiding.{asked}
use Rattle.search.proofs.ChoiceLaws.{hop_tried}
use Rattle.search.proofs.pair.Sought.search.Goals as goal

pub loop-i-preserved : goal.loop-i-preserved
loop-i-preserved c =
    let s = c.args.self.now in
    let k = s.links.now in
    hop_tried s.ranks.now s.area.n (asked s.protected) s.area.cells.now s.target.now c.args.kept k.from k.to k.out k.back c.args.hops.now.arcs c.loop-i.i
    c.loop-i.invariant c.hop_of-hop.ensures (c.requires c.loop-i.i (omega arith)) c.protecting_from-protecting.ensures c.over_hop-best.ensures
