use Rattle.std.proofs.Common.{arith}
use Rattle.column.proofs.ColumnLaws.{column_none, column_more}
use Rattle.column.proofs.column_of.Goals as goal

pub loop-x-init : goal.loop-x-init
loop-x-init g c = λ f h. column_none f

pub loop-x-preserved : goal.loop-x-preserved
loop-x-preserved g c = λ f h. column_more f (omega arith) (c.loop-x.invariant f h) (h c.loop-x.x c.to.result c.loop-x-test.true (omega arith) c.to.ensures)
