use Rattle.distance.specs.Cells.{self_loops}
use Rattle.distance.proofs.DirectLaws.{cheapest_limited, loops_more}
use Rattle.distance.proofs.direct.lower_self_loops.Goals as goal

pub lower-requires : goal.lower-requires
lower-requires c = (cheapest_limited (self_loops c.loop-x.x) c.requires.0 c.loop-x.invariant, c.loop-x-test.true, c.loop-x-test.true)

pub loop-x-preserved : goal.loop-x-preserved
loop-x-preserved c = loops_more c.loop-x.invariant c.lower.ensures.1
