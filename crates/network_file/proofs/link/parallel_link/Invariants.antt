-- Row 7 passes each link before k, and the table has the pairs that they join.
use Rattle.std.proofs.Common.{◌≡◌}
use Rattle.block.specs.Laws.First.{Passed}
use Rattle.network_file.specs.Entry.{pair_new}
use Rattle.network_file.proofs.PairLaws.{joined_by}
use Rattle.network_file.proofs.link.parallel_link.Given as goal

abbrev pub invariant-loop-k : goal.invariant-loop-k
invariant-loop-k l = Passed (pair_new l.links) 0 l.links.links l.k × (l.joined ≡ joined_by l.links l.k)
