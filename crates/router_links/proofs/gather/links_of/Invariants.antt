use Rattle.std.proofs.Common.{map}
use Rattle.lfa.specs.Lists.{below, flat}
use Rattle.ospf.specs.Run.{lsas_of}
use Rattle.ospf.specs.Network.{links_up, ids_of}
use Rattle.router_links.specs.Gather.{LinksHeld}
use Rattle.router_links.proofs.gather.links_of.Given as goal

-- the links of the routers passed to higher routers are in the columns
abbrev pub invariant-loop-a : goal.invariant-loop-a
invariant-loop-a l = LinksHeld (flat (map (links_up (lsas_of l.run l.n) (ids_of (lsas_of l.run l.n))) (below l.a))) l.all
