-- What is to be known of an area, so that the sets read from it are those of the routers that avoid the link by walks.
-- Assumes nothing.
use Rattle.std.specs.Prelude.{ℕ, ◌*◌, ◌≤◌, List, length}
use Rattle.lfa.specs.Network.{Arc}
use Rattle.lfa.specs.Distance.{LeastCosts}
use Rattle.lfa.specs.Space.{Protected}
use Rattle.lfa.specs.Sound.{Sound, Named}
use Rattle.metric.specs.Area.{held}

-- the area holds the distances of a sound network, in which the arcs over the protected link are its two directions
pub record Known (n : ℕ) (hops : List Arc) (q : Protected) (area : List ℕ) : Type 0 where
  pub long : n * n ≤ length area
  pub sound : Sound n hops
  pub costs : LeastCosts hops (held n area)
  pub named : Named hops q
