use Rattle.distance.proofs.EliminationLaws.{substituted_more}
use Rattle.distance.proofs.rows.substitute.Goals as goal

pub loop-k-preserved : goal.loop-k-preserved
loop-k-preserved c = substituted_more c.loop-k-test.true c.copy_from_slice.ensures.after c.loop-k.invariant c.lower_later.ensures
