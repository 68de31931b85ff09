-- The router is none of the numbers passed.
use Rattle.std.proofs.Common.{◌≡◌, true, not, eqb, get_or}
use Rattle.lfa.specs.Lists.{every_below}
use Rattle.router_lsa.proofs.scan.new_among.Given as goal

abbrev pub invariant-loop-j : goal.invariant-loop-j
invariant-loop-j l = every_below (λ j. not (eqb l.router (get_or l.ids j 0))) l.j ≡ true
