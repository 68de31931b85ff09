-- The links passed are sound.
use Rattle.std.proofs.Common.{◌≡◌, true}
use Rattle.lfa.specs.Lists.{every_below}
use Rattle.ospf.specs.Lsa.{entry_good}
use Rattle.router_lsa.proofs.entry.entries_good.Given as goal

abbrev pub invariant-loop-k : goal.invariant-loop-k
invariant-loop-k l = every_below (entry_good l.l) l.k ≡ true
