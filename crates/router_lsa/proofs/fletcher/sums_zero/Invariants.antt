-- The sums from here on over what is left are those of the whole.
use Rattle.std.proofs.Common.{◌≡◌, ◌<◌, drop}
use Rattle.ospf.specs.Lsa.{fletcher}
use Rattle.router_lsa.proofs.fletcher.sums_zero.Given as goal

abbrev pub invariant-loop-x : goal.invariant-loop-x
invariant-loop-x l = (l.c0 < 255) × (l.c1 < 255) × (fletcher l.c0 l.c1 (drop l.x-index l.summed) ≡ fletcher 0 0 l.summed)
