-- `given` of the classes before this one have the rank.
use Rattle.std.proofs.Common.{◌≡◌, ◌≤◌}
use Rattle.rows.proofs.RankLaws.{given_to}
use Rattle.rows.proofs.ranks.times_given.Given as goal

abbrev pub invariant-loop-entry : goal.invariant-loop-entry
invariant-loop-entry l = (l.given ≤ l.entry-index) × (l.given ≡ given_to l.ranks l.rank l.entry-index)
