use Rattle.table.specs.Sums.{Summands}
use Rattle.table.proofs.sums.copy_summands.Given as goal

abbrev pub invariant-loop-i : goal.invariant-loop-i
invariant-loop-i l = Summands l.i l.table l.cells
