-- The router is named by none of the LSAs passed, and LSA j begins at `at`.
use Rattle.std.proofs.Common.{◌≡◌, true}
use Rattle.ospf.specs.Run.{begin_of}
use Rattle.router_lsa.specs.Scan.{new_router}
use Rattle.router_lsa.proofs.scan.new_later.Given as goal

abbrev pub invariant-loop-j : goal.invariant-loop-j
invariant-loop-j l = (l.at ≡ begin_of l.run l.j) × (new_router l.run l.j l.router ≡ true)
