-- Every block before block i holds its check.
-- Assumes nothing.
use Rattle.lfa.specs.File.{check_good}
use Rattle.block.specs.Laws.First.{Passed}
use Rattle.block.proofs.check.first_bad_check.Given as goal

abbrev pub invariant-loop-i : goal.invariant-loop-i
invariant-loop-i l = Passed (check_good l.file) 0 l.n l.i
