-- It is so of the links before k.
use Rattle.std.proofs.Common.{◌≡◌}
use Rattle.lfa.specs.Lists.{every_below}
use Rattle.network_file.specs.Entry.{ends_good}
use Rattle.network_file.proofs.link.all_ends_good.Given as goal

abbrev pub invariant-loop-k : goal.invariant-loop-k
invariant-loop-k l = l.good ≡ every_below (ends_good l.links) l.k
