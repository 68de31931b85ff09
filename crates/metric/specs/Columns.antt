-- The network in columns of numbers: link k joins routers from[k] and to[k], at cost out[k] from the first to the second and
-- back[k] from the second to the first.
-- Assumes nothing.
use Rattle.std.specs.Prelude.{ℕ, ◌≡◌, List, [], map, get_or}
use Rattle.lfa.specs.Lists.{below}
use Rattle.lfa.specs.Network.{Link, link, Network, Arc, arcs_from}

-- the links that the columns hold
unfoldable pub links_in : (from to out back : List ℕ) → ℕ → List Link
links_in from to out back links = map (λ k. link (get_or from k 0) (get_or to k 0) (get_or out k 0) (get_or back k 0)) (below links)

-- both directions of each of them
unfoldable pub arcs_in : (from to out back : List ℕ) → ℕ → List Arc
arcs_in from to out back links = arcs_from 0 (links_in from to out back links)

-- a network of these routers and of these links, without prefixes
abbrev pub network_in : (routers links : ℕ) → (from to out back : List ℕ) → Network
network_in routers links from to out back = record { routers = routers; links = links_in from to out back links; prefixes = [] }

-- the network has these routers and links, and any prefixes
pub record InColumns (net : Network) (routers links : ℕ) (from to out back : List ℕ) : Type 0 where
  pub routers_are : net.routers ≡ routers
  pub links_are : net.links ≡ links_in from to out back links
