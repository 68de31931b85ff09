-- The network that a network by value holds in its columns, whatever numbers they are; a cell past the end of a column counts as 0.
-- Assumes nothing.
use Rattle.std.specs.Prelude.{ℕ, ◌*◌, List, map, get_or}
use Rattle.lfa.specs.Lists.{below}
use Rattle.lfa.specs.Network as lfa
use Rattle.lfa.specs.Network.{Target}
use Rattle.metric.specs.Columns.{links_in}
use Rattle.metric.specs.Column.{slots_in}
use Rattle.network_file.specs.declared.network.Network.{Network}

-- prefix p: the first attached[p] of its eight slots
abbrev pub target_in : (attached routers costs : List ℕ) → ℕ → Target
target_in attached routers costs p = slots_in routers costs (8 * p) (get_or attached p 0)

-- the first n prefixes
unfoldable pub targets_in : (attached routers costs : List ℕ) → ℕ → List Target
targets_in attached routers costs n = map (target_in attached routers costs) (below n)

unfoldable pub network_held : Network → lfa.Network
network_held s =
    record {
      routers = s.links.routers;
      links = links_in s.links.from s.links.to s.links.out s.links.back s.links.links;
      prefixes = targets_in s.attached s.at s.own s.links.prefixes;
    }
