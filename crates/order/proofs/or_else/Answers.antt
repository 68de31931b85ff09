-- By the test.
use Rattle.std.proofs.Common.{refl, arith}
use Rattle.lfa.specs.Repair.{or_else}
use Rattle.order.proofs.or_else.Goals as goal

pub returns-then-test : goal.returns-then-test
unfolding or_else
returns-then-test c = rw c.if-test.true (refl, omega arith)

pub returns-else-test : goal.returns-else-test
unfolding or_else
returns-else-test c = rw c.if-test.false (refl, omega arith)
