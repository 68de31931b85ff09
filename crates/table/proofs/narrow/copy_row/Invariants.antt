use Rattle.table.specs.Sums.{RowCopied}
use Rattle.table.proofs.narrow.copy_row.Given as goal

abbrev pub invariant-loop-t : goal.invariant-loop-t
invariant-loop-t l = RowCopied l.t l.by l.at l.table l.initial.cells l.cells
