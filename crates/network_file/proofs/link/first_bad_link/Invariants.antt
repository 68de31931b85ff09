-- Row 6 passes each link before k.
use Rattle.block.specs.Laws.First.{Passed}
use Rattle.network_file.specs.Entry.{link_sound}
use Rattle.network_file.proofs.link.first_bad_link.Given as goal

abbrev pub invariant-loop-k : goal.invariant-loop-k
invariant-loop-k l = Passed (link_sound l.links) 0 l.links.links l.k
