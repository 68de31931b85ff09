use Rattle.table.specs.Sums.{AtMost}
use Rattle.table.proofs.narrow.all_bits.Given as goal

abbrev pub invariant-loop-cell : goal.invariant-loop-cell
invariant-loop-cell l = AtMost l.cell-index l.cells l.all
