-- What the public functions answer for any numbers, by those that the area and the columns hold. Where the columns have no cell for a link
-- or for the prefix, or no distances can be read for the ends of the protected link, a space is empty, and nothing is found.
-- Assumes nothing.
use Rattle.std.specs.Prelude.{ℕ, ◌*◌, Bool, true, false, ◌&&◌, List, ltb, leb, length, get_or}
use Rattle.lfa.specs.Network.{Arc}
use Rattle.lfa.specs.Distance.{unreachable}
use Rattle.lfa.specs.Space.{Protected, Space}
use Rattle.lfa.specs.Repair.{Outcome, prefix_unreachable, prefix_untouched, none_serves}
use Rattle.metric.specs.declared.columns.Links.{Links}
use Rattle.network_file.specs.declared.network.Network.{Network}
use Rattle.metric.specs.Columns.{arcs_in}
use Rattle.column.specs.Calls.{router_column, prefix_column, attached_set}
use Rattle.avoid.specs.Calls.{readable}
use Rattle.search.specs.Hops.{protected_in}
use Rattle.steps.specs.declared.Onward.{Onward}
use Rattle.steps.specs.Crossing.{steps_over, onward_by_steps}
use Rattle.search.specs.Spaces.{avoiding_in, space_for}
use Rattle.search.specs.Choice.{outcome_for, first_serving}

-- the columns have a cell for each link, and the area one for each two routers, the ends of the link among them
unfoldable pub searchable : (n links : ℕ) → Protected → (cells : ℕ) → Bool
searchable n links q cells = leb links 128 && readable n q cells

-- ---- by hops and a protected link

unfoldable pub space_if : Bool → Space → (n : ℕ) → List Arc → Protected → (area : List ℕ) → ℕ
space_if passes s n hops q area = elim passes [ true ↦ space_for s n hops q area | false ↦ 0 ]

-- the pair that serves a target to which a column holds the distances; `onward` tells from which routers the second leg avoids the link,
-- and from which it misses E
unfoldable pub pair_for : (ranks : List ℕ) → (n : ℕ) → List Arc → Protected → (area column : List ℕ) → Onward → Outcome
pair_for ranks n hops q area column onward = outcome_for (first_serving ranks n hops q area column onward)

-- what is found for E: from the routers of Q the second leg avoids the link, and from none it misses E
unfoldable pub link_for : (ranks : List ℕ) → (n : ℕ) → List Arc → Protected → (area column : List ℕ) → Outcome
link_for ranks n hops q area column = pair_for ranks n hops q area column (record { avoiding = avoiding_in n q area column; missing = 0 })

unfoldable pub link_if : (ranks : List ℕ) → Bool → (n : ℕ) → List Arc → Protected → (area : List ℕ) → Outcome
link_if ranks passes n hops q area = elim passes [ true ↦ link_for ranks n hops q area (router_column n q.far area) | false ↦ none_serves ]

-- what is found for a prefix to which a column holds the distances; every walk towards it ends at the routers of `ends`
unfoldable pub prefix_for : (ranks : List ℕ) → (n : ℕ) → List Arc → Protected → (area : List ℕ) → (ends : ℕ) → (column : List ℕ) → Onward → Outcome
prefix_for ranks n hops q area ends column onward =
    elim (ltb (get_or column q.near 0) unreachable) [
      | false ↦ prefix_unreachable
      | true ↦ elim (steps_over q ends column) [ false ↦ prefix_untouched | true ↦ pair_for ranks n hops q area column onward ]
    ]

unfoldable pub prefix_if : (ranks : List ℕ) → Bool → (n : ℕ) → List Arc → Protected → (area : List ℕ) → (ends : ℕ) → (column : List ℕ) → Onward → Outcome
prefix_if ranks passes n hops q area ends column onward = elim passes [ true ↦ prefix_for ranks n hops q area ends column onward | false ↦ none_serves ]

-- ---- by the links of a network, for a prefix by all of it, and a question

abbrev pub hops_of : Links → List Arc
hops_of columns = arcs_in columns.from columns.to columns.out columns.back columns.links

abbrev pub protected_of : Links → (link end : ℕ) → Protected
protected_of columns link end = protected_in columns.from columns.to columns.out columns.back link end

abbrev pub searches : Links → (link end : ℕ) → (area : List ℕ) → Bool
searches columns link end area = ltb link 128 && searchable columns.routers columns.links (protected_of columns link end) (length area)

-- the space that is asked for, as the set of its routers
unfoldable pub space_by : Space → Links → (link end : ℕ) → (area : List ℕ) → ℕ
space_by s columns link end area = space_if (searches columns link end area) s columns.routers (hops_of columns) (protected_of columns link end) area

-- what a link repair finds
unfoldable pub link_by : Links → (ranks : List ℕ) → (link end : ℕ) → (area : List ℕ) → Outcome
link_by columns ranks link end area = link_if ranks (searches columns link end area) columns.routers (hops_of columns) (protected_of columns link end) area

-- the distances to a prefix
abbrev pub column_to : Network → (prefix : ℕ) → (area : List ℕ) → List ℕ
column_to network prefix area = prefix_column network.links.routers network.at network.own (8 * prefix) (get_or network.attached prefix 0) area

-- the routers at which every walk towards a prefix ends: the attached ones
abbrev pub ends_to : Network → (prefix : ℕ) → ℕ
ends_to network prefix = attached_set network.at (8 * prefix) (get_or network.attached prefix 0)

-- the routers from which the second leg avoids the link, and those from which it misses E
abbrev pub onward_to : Links → (link end ends : ℕ) → (column : List ℕ) → Onward
onward_to columns link end ends column = onward_by_steps columns.routers columns.links columns.from columns.to columns.out columns.back (protected_of columns link end) ends column

-- what a prefix repair finds
unfoldable pub prefix_by : Network → (ranks : List ℕ) → (link end prefix : ℕ) → (area : List ℕ) → Outcome
prefix_by network ranks link end prefix area =
    let column = column_to network prefix area in
    let ends = ends_to network prefix in
    let columns = network.links in
    prefix_if ranks (ltb prefix 128 && searches columns link end area) columns.routers (hops_of columns) (protected_of columns link end) area ends column (onward_to columns link end ends column)
