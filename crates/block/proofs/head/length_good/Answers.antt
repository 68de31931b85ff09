-- The test of row 1, part by part.
-- Assumes nothing.
use Rattle.std.proofs.Common.{arith}
use Rattle.std.proofs.lemmas.Bool.Decides.{nat_tests}
use Rattle.lfa.specs.File.{length_good}
use Rattle.block.proofs.head.length_good.Goals as goal

pub returns-then-n-eq0 : goal.returns-then-n-eq0
unfolding length_good
returns-then-n-eq0 c = grind (arith, nat_tests)

pub returns-else-n-eq0 : goal.returns-else-n-eq0
unfolding length_good
returns-else-n-eq0 c = grind (arith, nat_tests)
