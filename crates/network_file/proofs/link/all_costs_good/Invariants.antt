-- It is so of the links before k.
use Rattle.std.proofs.Common.{◌≡◌, leb}
use Rattle.lfa.specs.Lists.{every_below}
use Rattle.network_file.specs.Entry.{costs_good}
use Rattle.network_file.proofs.link.all_costs_good.Given as goal

abbrev pub invariant-loop-k : goal.invariant-loop-k
invariant-loop-k l = leb 1 l.least ≡ every_below (costs_good l.links) l.k
