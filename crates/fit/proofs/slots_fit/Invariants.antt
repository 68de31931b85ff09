-- The slots before s hold routers.
use Rattle.std.specs.Prelude.{ℕ, ◌<◌, ◌≡◌, true}
use Rattle.metric.specs.Fit.{attaches}
use Rattle.fit.proofs.slots_fit.Given as goal

abbrev pub invariant-loop-s : goal.invariant-loop-s
invariant-loop-s l = (j : ℕ) → j < l.s → attaches l.n l.slots.first l.slots.at.now j ≡ true
