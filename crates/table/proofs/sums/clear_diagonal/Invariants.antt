use Rattle.table.specs.Sums.{form32, Cleared}
use Rattle.table.proofs.sums.clear_diagonal.Given as goal

abbrev pub invariant-loop-x : goal.invariant-loop-x
invariant-loop-x l = Cleared (form32 l.n) l.x l.sums
