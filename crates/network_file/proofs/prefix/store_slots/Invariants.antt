-- The first s of them are stored.
use Rattle.std.proofs.Common.{◌≡◌, ◌*◌}
use Rattle.lfa.specs.File.{slot}
use Rattle.network_file.specs.Struct.{router_of, cost_of, stored}
use Rattle.network_file.proofs.prefix.store_slots.Given as goal

abbrev pub invariant-loop-s : goal.invariant-loop-s
invariant-loop-s l =
    (l.at ≡ stored (8 * l.p) l.s (λ j. router_of (slot l.entry j)) l.initial.at)
    × (l.own ≡ stored (8 * l.p) l.s (λ j. cost_of (slot l.entry j)) l.initial.own)
