use Rattle.table.proofs.NarrowLaws.{most_more}
use Rattle.table.proofs.narrow.all_bits.Goals as goal

pub loop-cell-preserved : goal.loop-cell-preserved
loop-cell-preserved c = most_more _ _ _ c.loop-cell.invariant
