use Rattle.std.proofs.Common.{◌<◌, ◌^◌}
use Rattle.table.proofs.RowLaws.{RowSums}
use Rattle.table.proofs.row.row_right.Given as goal

-- the sums are lowered by the routers of the set but those that are left
abbrev pub invariant-loop-rest : goal.invariant-loop-rest
invariant-loop-rest l = (l.rest < 2 ^ 64) × RowSums l.x l.heads l.rest l.cells l.sums

abbrev pub decreases-loop-rest : goal.decreases-loop-rest
decreases-loop-rest l = l.rest
