-- What the answer tells a caller who knows a network within the limits whose links the columns hold, whatever its prefixes.
-- Assumes nothing.
use Rattle.std.specs.Prelude.{ℕ, ◌*◌, ◌≤◌, ◌≡◌, List, length, get_or}
use Rattle.std.proofs.Math.Path.{sym}
use Rattle.std.proofs.Common.{◌∙◌, arith, lt-ltb}
use Rattle.std.proofs.Math.Bool.{true}
use Rattle.lfa.specs.Network.{Network, arcs}
use Rattle.lfa.specs.FileOf.{WithinLimits}
use Rattle.lfa.specs.Distance.{distances, cells_hold, holds_distances}
use Rattle.lfa.proofs.Laws.Test.{and_right, and_make, same_test}
use Rattle.lfa.proofs.Laws.List.{every_make}
use Rattle.lfa.proofs.Laws.Network.{limits_links}
use Rattle.lfa.proofs.Laws.Holds.{holds_gives}
use Rattle.metric.specs.Fit.{cells_fit, links_fit}
use Rattle.metric.specs.Columns.{InColumns, network_in}
use Rattle.metric.proofs.Laws.Fit.{cells_fit_lem, links_fit_lem}
use Rattle.metric.proofs.Laws.Columns.{link_held_lem, limits_columns}
use Rattle.table.specs.Calls.{both_some, costs_fit, table_holds}

module _ {net : Network} {n links : ℕ} {from to out back : List ℕ} (limits : WithinLimits net) (c : InColumns net n links from to out back) where
  costs : costs_fit links out back ≡ true
  unfolding costs_fit
  costs = every_make (both_some out back) links (λ k h. let s = link_held_lem (limits_links limits) c k h in
      and_make _ _ (lt-ltb 0 (get_or out k 0) (omega (arith, s.out_falls))) (lt-ltb 0 (get_or back k 0) (omega (arith, s.back_falls))))

  -- distances are those of routers and links
  same_distances : (table : List ℕ) → holds_distances (network_in n links from to out back) table ≡ holds_distances net table
  unfolding holds_distances cells_hold distances arcs
  same_distances table = rw (c.routers_are, c.links_are)

  -- The answer is whether the table holds the distances of the network. For a network within the limits the tests of the columns pass, since
  -- its links join routers and cost 1 or more, so that the answer is that about the cells.
  pub holds_is : (table : List ℕ) → table_holds n links from to out back table ≡ holds_distances net table
  unfolding table_holds
  holds_is table = same_test _ (holds_distances net table) given told
    where
      given : table_holds n links from to out back table ≡ true → holds_distances net table ≡ true
      given e =
          let f = and_right (links_fit n links from to) _ (and_right (cells_fit n (length table)) _ e) in
          sym (same_distances table) ∙ and_right (costs_fit links out back) _ f

      told : holds_distances net table ≡ true → table_holds n links from to out back table ≡ true
      told e =
          let w = limits_columns limits c in
          let long : n * n ≤ length table = rw (← c.routers_are) (holds_gives net table e).enough in
          and_make _ _ (cells_fit_lem n (length table) w.few_routers long) (and_make _ _ (links_fit_lem w) (and_make _ _ costs (same_distances table ∙ e)))
