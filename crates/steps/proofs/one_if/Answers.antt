use Rattle.steps.proofs.NextLaws.{none_if, one_if}
use Rattle.steps.proofs.one_if.Goals as goal

pub returns-then-test : goal.returns-then-test
returns-then-test c = one_if {b = c.args.test} c.args.x c.requires c.if-test.true

pub returns-else-test : goal.returns-else-test
returns-else-test c = none_if {b = c.args.test} c.args.x c.if-test.false
