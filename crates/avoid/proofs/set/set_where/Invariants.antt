-- The set holds the routers before x that pass.
use Rattle.std.proofs.Common.{◌≡◌, ◌<◌, ℕ, Bool}
use Rattle.lfa.specs.Space.{set_of}
use Rattle.avoid.proofs.set.set_where.Given as goal

abbrev pub invariant-loop-x : goal.invariant-loop-x
invariant-loop-x g l = (p : ℕ → Bool) → ((x : ℕ) (b : Bool) → x < l.n → goal.F-post g l.passes x b → b ≡ p x) → l.set ≡ set_of l.x p
