-- None of the links passed leads to the same router.
use Rattle.std.proofs.Common.{◌≡◌, true, not}
use Rattle.lfa.specs.Lists.{every_below}
use Rattle.ospf.specs.Lsa.{entry_at, same_neighbour}
use Rattle.router_lsa.proofs.entry.entry_new.Given as goal

abbrev pub invariant-loop-j : goal.invariant-loop-j
invariant-loop-j l = every_below (λ j. not (same_neighbour (entry_at l.l l.k) (entry_at l.l j))) l.j ≡ true
