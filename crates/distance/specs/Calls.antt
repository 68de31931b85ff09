-- What the public function does with any numbers: where these are not those of a network, the area stays as it was.
-- Assumes nothing.
use Rattle.std.specs.Prelude.{ℕ, true, false, ◌&&◌, List, length}
use Rattle.lfa.specs.Distance.{filled}
use Rattle.metric.specs.Fit.{cells_fit, links_fit}
use Rattle.metric.specs.Columns.{network_in}

-- the area, once the distances of the network in the columns are filled in
unfoldable pub area_filled : (routers links : ℕ) → (from to out back area : List ℕ) → List ℕ
area_filled routers links from to out back area =
    elim (cells_fit routers (length area) && links_fit routers links from to) [ true ↦ filled (network_in routers links from to out back) area | false ↦ area ]
