-- The test passes at each prefix before p, and the next entry stands at the place.
use Rattle.std.proofs.Common.{◌≡◌, ◌<◌, ℕ, Bool}
use Rattle.block.specs.Laws.First.{Passed}
use Rattle.network_file.specs.Entry.{place_in}
use Rattle.network_file.proofs.prefix.first_failing.Given as goal

abbrev pub invariant-loop-p : goal.invariant-loop-p
invariant-loop-p g l = record {
  at_place : l.place ≡ place_in l.links.links l.p;
  passed : (test : ℕ → Bool) → ((p : ℕ) (r : Bool) → p < l.links.prefixes → goal.F-post g l.good (place_in l.links.links p) r → test p ≡ r) → Passed test 0 l.links.prefixes l.p;
}
