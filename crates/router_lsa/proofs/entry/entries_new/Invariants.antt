-- None of the links passed leads to a router that an earlier one leads to.
use Rattle.std.proofs.Common.{◌≡◌, true}
use Rattle.lfa.specs.Lists.{every_below}
use Rattle.ospf.specs.Lsa.{entry_new}
use Rattle.router_lsa.proofs.entry.entries_new.Given as goal

abbrev pub invariant-loop-k : goal.invariant-loop-k
invariant-loop-k l = every_below (entry_new l.l) l.k ≡ true
