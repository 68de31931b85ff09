-- i good LSAs are passed, LSA i begins at `at`, and the identifiers of the first 64 are at hand.
use Rattle.std.proofs.Common.{◌≡◌, ◌-◌, length}
use Rattle.ospf.specs.Run.{begin_of, Passed}
use Rattle.router_lsa.specs.Scan.{AtHand}
use Rattle.router_lsa.proofs.scan_run.Given as goal

abbrev pub invariant-loop-at : goal.invariant-loop-at
invariant-loop-at l = Passed l.run l.i × (l.at ≡ begin_of l.run l.i) × AtHand l.run l.i l.hand.ids l.hand.start × (length l.hand.ids ≡ 64)

abbrev pub decreases-loop-at : goal.decreases-loop-at
decreases-loop-at l = length l.run - l.at
