use Rattle.std.proofs.Common.{◌+◌, ◌-◌, List, ◌++◌}
use Rattle.lfa.specs.Network.{Link}
use Rattle.router_links.specs.Gather.{LinksHeld}
use Rattle.router_links.proofs.JoinLaws.{up_to}
use Rattle.router_links.proofs.gather.links_up.Given as goal

-- the links with the routers passed are in the columns
abbrev pub invariant-loop-b : goal.invariant-loop-b
invariant-loop-b l = (held : List Link) → LinksHeld held l.fn.links → LinksHeld (held ++ up_to l.run l.n l.a (l.b - (l.a + 1))) l.all
