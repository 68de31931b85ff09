-- The set holds the routers of the slots passed.
use Rattle.std.proofs.Common.{◌≡◌}
use Rattle.lfa.specs.Space.{set_of}
use Rattle.column.specs.Calls.{in_slots}
use Rattle.column.proofs.attached_in.Given as goal

abbrev pub invariant-loop-s : goal.invariant-loop-s
invariant-loop-s l = l.set ≡ set_of 64 (in_slots l.slots.at.now l.slots.first l.s)
