-- The slots before s name different routers, and the table has them.
use Rattle.std.proofs.Common.{◌≡◌, true}
use Rattle.lfa.specs.Lists.{every_below}
use Rattle.lfa.specs.File.{slot_new}
use Rattle.network_file.proofs.PrefixLaws.{named_by}
use Rattle.network_file.proofs.prefix.new_routers.Given as goal

abbrev pub invariant-loop-s : goal.invariant-loop-s
invariant-loop-s l = (every_below (slot_new l.entry) l.s ≡ true) × (l.named ≡ named_by l.entry l.s)
