use Rattle.table.proofs.RowLaws.{all_more}
use Rattle.table.proofs.row.rows_right.Goals as goal

pub loop-x-preserved : goal.loop-x-preserved
loop-x-preserved c = all_more c.args.heads.now c.args.cells.now c.loop-x.x c.loop-x.invariant (c.row_right.ensures.right c.if-not-row_right.false)
