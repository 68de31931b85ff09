-- It is so of the slots before s.
use Rattle.std.proofs.Common.{◌≡◌, eqb}
use Rattle.lfa.specs.Lists.{every_below}
use Rattle.network_file.specs.Entry.{unused_zero}
use Rattle.network_file.proofs.prefix.unused_zero.Given as goal

abbrev pub invariant-loop-s : goal.invariant-loop-s
invariant-loop-s l = eqb l.all 0 ≡ every_below (unused_zero l.entry l.count) l.s
