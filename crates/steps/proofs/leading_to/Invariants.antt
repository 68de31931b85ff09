-- The set is that of as many rounds as the loop has made.
use Rattle.std.proofs.Common.{◌≡◌}
use Rattle.steps.specs.Steps.{led_in}
use Rattle.steps.proofs.leading_to.Given as goal

abbrev pub invariant-loop : goal.invariant-loop
invariant-loop l = l.set ≡ led_in l.nexts l.start l.counter
