-- Every block before block i has the right check.
-- Assumes nothing.
use Rattle.check_forms.specs.FirstBad.{Passed}
use Rattle.check_forms.proofs.first_bad.Given as goal

abbrev pub invariant-loop-i : goal.invariant-loop-i
invariant-loop-i g l = Passed l.file l.i
