-- It is so of the slots before s.
use Rattle.std.proofs.Common.{◌≡◌, ◌+◌, ◌*◌, ltb}
use Rattle.lfa.specs.Lists.{every_below}
use Rattle.lfa.specs.File.{word_at}
use Rattle.network_file.proofs.prefix.routers_below.Given as goal

abbrev pub invariant-loop-s : goal.invariant-loop-s
invariant-loop-s l = ltb l.all 65536 ≡ every_below (λ j. ltb (word_at l.entry (2 + 4 * j) + l.lift) 65536) l.s
