use Rattle.table.specs.Sums.{form32}
use Rattle.table.proofs.SumLaws.{cleared_none, cleared_more}
use Rattle.table.proofs.sums.clear_diagonal.Goals as goal

pub loop-x-init : goal.loop-x-init
loop-x-init c = rw c.requires.1 (cleared_none (form32 c.args.n) c.requires.0)

pub loop-x-preserved : goal.loop-x-preserved
loop-x-preserved c = cleared_more c.requires.0 c.loop-x-test.true c.loop-x.invariant
