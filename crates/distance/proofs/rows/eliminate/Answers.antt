use Rattle.std.proofs.Common.{◌≡◌, ◌+◌, ◌-◌, arith}
use Rattle.distance.proofs.EliminationLaws.{eliminated_more}
use Rattle.distance.proofs.rows.eliminate.Goals as goal

pub loop-k-preserved : goal.loop-k-preserved
loop-k-preserved c =
    let e : c.loop-k.k ≡ c.loop-k.k - 1 + 1 = omega arith in
    eliminated_more (omega arith) (rw e at c.loop-k.invariant) c.lower_earlier.ensures
