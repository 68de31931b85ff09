use Rattle.std.proofs.Common.{arith}
use Rattle.table.proofs.KeepLaws.{arc_equal}
use Rattle.table.proofs.keep.keep_arc.Goals as goal

pub returns : goal.returns
returns c = arc_equal (omega arith) (omega arith) (omega arith)
