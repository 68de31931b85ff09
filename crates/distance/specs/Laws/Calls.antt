-- The answers of the public function where the numbers are those of a network, as a caller knows it.
-- Assumes nothing.
use Rattle.std.specs.Prelude.{ℕ, ◌*◌, ◌≤◌, ◌≡◌, true, ◌&&◌, List, length}
use Rattle.std.proofs.Common.{sym, ◌∙◌}
use Rattle.lfa.specs.Network.{Network, arcs}
use Rattle.lfa.specs.Distance.{distances, filled}
use Rattle.lfa.proofs.Laws.Test.{and_make}
use Rattle.metric.specs.Fit.{cells_fit, links_fit, ColumnsWithin}
use Rattle.metric.proofs.Laws.Fit.{cells_fit_lem, links_fit_lem}
use Rattle.metric.specs.Columns.{InColumns, network_in}
use Rattle.distance.specs.Calls.{area_filled}

-- the distances of a network are those of its routers and links, whatever its prefixes
pub same_filled : (net other : Network) → net.routers ≡ other.routers → net.links ≡ other.links → (area : List ℕ) → filled net area ≡ filled other area
unfolding filled distances arcs
same_filled net other e f area = rw (e, f)

-- the area holds the distances of any network that the columns hold
pub filled_columns : {n links : ℕ} {from to after : List ℕ} → ColumnsWithin n links from to → (out back area : List ℕ) → n * n ≤ length area →
    (net : Network) → InColumns net n links from to out back → after ≡ area_filled n links from to out back area → after ≡ filled net area
unfolding area_filled
filled_columns {n} {links} {from} {to} w out back area long net c e =
    let fits : (cells_fit n (length area) && links_fit n links from to) ≡ true = and_make _ _ (cells_fit_lem n (length area) w.few_routers long) (links_fit_lem w) in
    let same = same_filled (network_in n links from to out back) net (sym c.routers_are) (sym c.links_are) area in
    e ∙ rw (fits, area_filled) same
