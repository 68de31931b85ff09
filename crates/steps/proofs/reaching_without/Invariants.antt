-- The set holds the routers before x that reach the target and are not in the given set.
use Rattle.std.proofs.Common.{◌≡◌, get_or}
use Rattle.lfa.specs.Space.{set_of}
use Rattle.steps.specs.Crossing.{reaches_without}
use Rattle.steps.proofs.reaching_without.Given as goal

abbrev pub invariant-loop-x : goal.invariant-loop-x
invariant-loop-x l = l.kept ≡ set_of l.x (reaches_without (λ y. get_or l.target y 0) l.set)
