-- Each rank below this one is given to just one class.
use Rattle.std.proofs.Common.{◌≡◌, ℕ, ◌<◌, true}
use Rattle.rows.proofs.RankLaws.{once}
use Rattle.rows.proofs.ranks.arranged.Given as goal

abbrev pub invariant-loop-rank : goal.invariant-loop-rank
invariant-loop-rank l = (k : ℕ) → k < l.rank → once l.ranks k ≡ true
