use Rattle.std.proofs.Common.{refl}
use Rattle.distance.proofs.RowLaws.{rows_more}
use Rattle.distance.proofs.rows.lower_later.Goals as goal

pub loop-i-preserved : goal.loop-i-preserved
loop-i-preserved c = rows_more c.requires.2 c.loop-i-test.true c.loop-i.invariant c.loop-i.auto.i refl c.lower_row.ensures
