use Rattle.std.proofs.Common.{arith}
use Rattle.steps.proofs.NextLaws.{none_next, next_more}
use Rattle.steps.proofs.Walks.nexts_over.Goals as goal

pub loop-k-init : goal.loop-k-init
loop-k-init c = none_next _ _ _ _ _ _

pub loop-k-preserved : goal.loop-k-preserved
loop-k-preserved c =
    let a = c.requires.from_in c.loop-k.k c.loop-k-test.true in
    let b = c.requires.to_in c.loop-k.k c.loop-k-test.true in
    next_more _ _ _ _ _ _ c.loop-k.k c.from-a.ensures c.from-b.ensures c.from.ensures c.from-in-loop-k.ensures (omega arith) (omega arith) c.loop-k.invariant c.put_hop.ensures
    c.put_hop-in-loop-k.ensures
