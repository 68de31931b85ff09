-- The cells before x hold the numbers that `to` gives.
use Rattle.std.proofs.Common.{◌≡◌, ◌<◌, ◌≤◌, ℕ}
use Rattle.lfa.specs.Distance.{unreachable}
use Rattle.metric.specs.Column.{column}
use Rattle.column.proofs.column_of.Given as goal

abbrev pub invariant-loop-x : goal.invariant-loop-x
invariant-loop-x g l = (f : ℕ → ℕ) → ((x r : ℕ) → x < l.n → r ≤ unreachable → goal.F-post g l.to x r → r ≡ f x) → l.target ≡ column l.x f
