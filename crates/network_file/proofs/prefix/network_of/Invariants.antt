-- The cells of the first p prefixes are filled, the rest is zero, and the next entry stands at the place.
use Rattle.std.proofs.Common.{◌≡◌, ◌≤◌, ◌*◌, ◌/◌, ◌%◌}
use Rattle.lfa.specs.File.{prefix_entry, attachments, slot}
use Rattle.network_file.specs.Struct.{router_of, cost_of, column}
use Rattle.network_file.specs.Entry.{place_in}
use Rattle.network_file.proofs.prefix.network_of.Given as goal

abbrev pub invariant-loop-p : goal.invariant-loop-p
invariant-loop-p l = record {
  few : l.links.prefixes ≤ 128;
  at_place : l.place ≡ place_in l.links.links l.p;
  attached_filled : l.attached ≡ column 128 l.p (λ j. attachments (prefix_entry l.file j));
  routers_filled : l.at ≡ column 1024 (8 * l.p) (λ k. router_of (slot (prefix_entry l.file (k / 8)) (k % 8)));
  costs_filled : l.own ≡ column 1024 (8 * l.p) (λ k. cost_of (slot (prefix_entry l.file (k / 8)) (k % 8)));
}
