use Rattle.table.proofs.NarrowLaws.{rows_none, rows_more}
use Rattle.table.proofs.narrow.copy_rows.Goals as goal

pub loop-x-init : goal.loop-x-init
loop-x-init c = rw c.requires.3 (rows_none _ _)

pub loop-x-preserved : goal.loop-x-preserved
loop-x-preserved c = rows_more c.requires.0 c.loop-x.invariant c.copy_row.ensures
