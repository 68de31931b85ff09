-- The set holds the routers before x that have a next router in the given set.
use Rattle.std.proofs.Common.{◌≡◌}
use Rattle.lfa.specs.Space.{set_of}
use Rattle.steps.proofs.LedLaws.{meets}
use Rattle.steps.proofs.led_to.Given as goal

abbrev pub invariant-loop-x : goal.invariant-loop-x
invariant-loop-x l = l.led ≡ set_of l.x (meets l.nexts l.set)
