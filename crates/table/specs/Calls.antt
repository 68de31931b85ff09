-- What the public function answers for any numbers: where these are not those of a network, no.
-- Assumes nothing.
use Rattle.std.specs.Prelude.{ℕ, Bool, ◌&&◌, List, ltb, length, get_or}
use Rattle.lfa.specs.Lists.{every_below}
use Rattle.lfa.specs.Distance.{holds_distances}
use Rattle.metric.specs.Fit.{cells_fit, links_fit}
use Rattle.metric.specs.Columns.{network_in}

-- both costs of each link are 1 or more
abbrev pub both_some : (out back : List ℕ) → ℕ → Bool
both_some out back k = ltb 0 (get_or out k 0) && ltb 0 (get_or back k 0)

unfoldable pub costs_fit : (links : ℕ) → (out back : List ℕ) → Bool
costs_fit links out back = every_below (both_some out back) links

-- the table has a cell for each two routers, the columns hold the links of a network, and the cells are its distances
unfoldable pub table_holds : (routers links : ℕ) → (from to out back table : List ℕ) → Bool
table_holds routers links from to out back table =
    cells_fit routers (length table) && (links_fit routers links from to && (costs_fit links out back && holds_distances (network_in routers links from to out back) table))
