-- What the columns of the network by value hold, once its file is accepted: the prefix and the link that a question names, the arcs,
-- and with the work area filled the distances.
-- Assumes nothing.
use Rattle.std.specs.Prelude.{ℕ, ◌*◌, ◌<◌, ◌≡◌, List, [], get_or}
use Rattle.std.proofs.Common.{sym, ◌∙◌, arith}
use Rattle.std.proofs.Math.Path.{ap}
use Rattle.std.proofs.Math.ListN.{length}
use Rattle.lfa.specs.Network.{Link, link, arcs}
use Rattle.lfa.specs.File.{Bytes, network_of}
use Rattle.lfa.specs.Distance.{distances, distance_in, filled}
use Rattle.lfa.specs.Space.{under_maintenance, protected_by, protected}
use Rattle.lfa.proofs.Laws.File.WrittenFile.{limits_few}
use Rattle.metric.specs.declared.columns.Links.{Links}
use Rattle.network_file.specs.declared.network.Network.{Network}
use Rattle.network_file.specs.Struct.{struct_of, links_struct_of}
use Rattle.network_file.specs.Laws.Struct.{struct_link, slots_prefix, slots_within}
use Rattle.metric.specs.Columns.{arcs_in}
use Rattle.metric.specs.Fit.{SlotsWithin}
use Rattle.metric.specs.Area.{held}
use Rattle.metric.specs.Column.{slots_in}
use Rattle.metric.proofs.Laws.Area.{held_filled}
use Rattle.metric.proofs.Laws.Columns.{arcs_columns}
use Rattle.search.specs.Hops.{protected_in}
use Rattle.question.specs.Taken.{Taken}
use Rattle.question.specs.Laws.Loaded.{limits, network_columns, routers_same}

-- ---- the network

module _ {b : Bytes} {links : Links} (t : Taken b links) where
  -- the arcs of the network, as the columns hold them
  pub hops_are : arcs_in links.from links.to links.out links.back links.links ≡ arcs (network_of b)
  hops_are = sym (arcs_columns (network_columns t))

  -- its distances, as the area holds them
  pub held_is : (area : List ℕ) {after : List ℕ} → after ≡ filled (network_of b) area → held links.routers after ≡ distance_in (distances (network_of b))
  held_is area f = rw (routers_same t, f) (held_filled (network_of b) area)

-- ---- the prefix that is named

module _ {b : Bytes} {links : Links} (t : Taken b links) (network : Network) (whole : network ≡ struct_of (network_of b)) (x : ℕ) (x-in : x < links.prefixes) where
  pub prefix_exists : x < length (network_of b).prefixes
  unfolding links_struct_of
  prefix_exists = let n : links.prefixes ≡ length (network_of b).prefixes = ap (λ (l : Links). l.prefixes) t.links_is in omega (arith, x-in)

  pub prefix_cell : x < 128
  prefix_cell = omega (arith, prefix_exists, (limits t).few_prefixes)

  -- its slots hold routers, and they are its attachments
  pub prefix_slots : {count : ℕ} → count ≡ get_or network.attached x 0 → SlotsWithin network.links.routers (8 * x) count network.at
  unfolding struct_of links_struct_of network_of
  prefix_slots c = rw (c, whole) (slots_within (network_of b) (limits t) x prefix_exists)

  pub prefix_target : {count : ℕ} → count ≡ get_or network.attached x 0 → slots_in network.at network.own (8 * x) count ≡ get_or (network_of b).prefixes x []
  prefix_target c = rw (c, whole) (slots_prefix (network_of b) (limits_few (network_of b) (limits t)) x prefix_exists)

-- ---- the link that is named

-- the columns hold the protected link
pub protected_is : {b : Bytes} {links : Links} (t : Taken b links) (l e : ℕ) → l < length (network_of b).links →
    protected_in links.from links.to links.out links.back l e ≡ protected under_maintenance (network_of b) l e
unfolding protected_in protected links_struct_of
protected_is {b} t l e link_in_lem =
    let s : Links → Link = λ n. link (get_or n.from l 0) (get_or n.to l 0) (get_or n.out l 0) (get_or n.back l 0) in
    ap (protected_by under_maintenance l e) (ap s t.links_is ∙ struct_link (network_of b) l link_in_lem)
