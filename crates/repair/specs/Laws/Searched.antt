-- The search over the filled work area, for a question that no row before 14 turns away: what it finds by the numbers of the area is what
-- document 01 defines over the network of the file.
-- Assumes nothing.
use Prim.Native.Nat.{ℕ, ◌*◌, ◌≤◌, ◌<◌}
use Rattle.std.specs.Prelude.{◌≡◌, refl, length, get_or}
use Rattle.std.proofs.Common.{sym, ◌∙◌, arith}
use Rattle.std.proofs.Math.Path.{ap}
use mathlib.Core.List.{List}
use Rattle.lfa.specs.Network as lfa
use Rattle.lfa.specs.Network.{Arc, arcs}
use Rattle.lfa.specs.File.{network_of}
use Rattle.lfa.specs.Distance.{distances, distance_in, filled}
use Rattle.lfa.specs.Space.{under_maintenance, Protected, protected, Space, space_of}
use Rattle.lfa.specs.Repair.{link_outcome, prefix_outcome}
use Rattle.lfa.specs.Question.{Question, some_cells, a_link, a_prefix, HasInput, network_asked, link_asked, prefix_asked, with_distances, link_found, prefix_found}
use Rattle.lfa.specs.Refusal.{Posed}
use Rattle.lfa.proofs.Laws.Accepted.{link_count, prefix_count}
use Rattle.lfa.proofs.Laws.Network.{LinksSound, limits_links, limits_sound, limits_distances, limits_named}
use Rattle.lfa.proofs.Laws.Work.{work_length}
use Rattle.metric.specs.declared.columns.Links.{Links}
use Rattle.network_file.specs.declared.network.Network.{Network}
use Rattle.network_file.specs.Struct.{struct_of, link_part}
use Rattle.metric.specs.Area.{held}
use Rattle.metric.specs.Column.{slots_in}
use Rattle.metric.proofs.Laws.Area.{held_filled}
use Rattle.avoid.specs.Known.{Known}
use Rattle.search.specs.Calls.{hops_of, protected_of, space_by, link_by, prefix_by}
use Rattle.search.proofs.Laws.Calls.{Asking, space_found, link_found_lem, prefix_found_lem}
use Rattle.question.specs.Taken.{Taken}
use Rattle.question.specs.Laws.Loaded.{limits, columns_within, routers_same, links_are, prefixes_are}
use Rattle.repair.specs.Laws.Named.{hops_are, held_is, prefix_cell, prefix_slots, prefix_target, protected_is}

-- Of a network with sound links and of one of them, all is known that spaces and repairs need, once the area is filled.
known_filled : (net : lfa.Network) {height : ℕ → ℕ} → LinksSound net height → (area : List ℕ) → net.routers * net.routers ≤ length area → (l e : ℕ) → l < length net.links →
    Known net.routers (arcs net) (protected under_maintenance net l e) (filled net area)
known_filled net links_sound area long l e h = record {
  long = omega (arith, work_length net area long);
  sound = limits_sound net links_sound;
  costs = rw (held_filled net area) (limits_distances net links_sound);
  named = limits_named net links_sound under_maintenance l e h;
}

-- what is known of the same numbers under other names
same_known : {n n' : ℕ} {hops hops' : List Arc} {q q' : Protected} {area area' : List ℕ} → n ≡ n' → hops ≡ hops' → q ≡ q' → area ≡ area' → Known n' hops' q' area' → Known n hops q area
same_known e₁ e₂ e₃ e₄ known = rw (e₁, e₂, e₃, e₄) known

module _ {q : Question} (p : Posed q) {links : Links} (t : Taken q.file links) (area : List ℕ) (cells_are : q.cells ≡ length area) (limit_is : q.maintenance ≡ under_maintenance) {after : List ℕ} (full : after ≡ filled (network_of q.file) area) (h : HasInput q a_link) where
  link_there : q.link < length (network_of q.file).links
  unfolding network_asked
  link_there = p.link h

  enough : HasInput q some_cells → (network_of q.file).routers * (network_of q.file).routers ≤ length area
  unfolding network_asked
  enough has_cells = omega (arith, cells_are, p.cells has_cells)

  -- the search part's test passes
  asking : HasInput q some_cells → Asking links q.link q.end after
  asking has_cells = record {
    link_in_lem = rw (links_are t, ← link_count q.file t.is_accepted) link_there;
    within = columns_within t;
    known = same_known (routers_same t) (hops_are t) (protected_is t q.link q.end link_there) full
        (known_filled (network_of q.file) (limits_links (limits t)) area (enough has_cells) q.link q.end link_there);
  }

  -- what is computed over the columns and the area is computed over the network and its distances
  of_network : {X : Type 0} (F : ℕ → List Arc → (ℕ → ℕ → ℕ) → Protected → X) →
      F links.routers (hops_of links) (held links.routers after) (protected_of links q.link q.end)
      ≡ F (network_asked q).routers (arcs (network_asked q)) (distance_in (distances (network_asked q))) (link_asked q)
  unfolding network_asked link_asked
  of_network F =
      same F (routers_same t) (hops_are t) (held_is t area full)
      (protected_is t q.link q.end link_there ∙ ap (λ (m : ℕ). protected m (network_of q.file) q.link q.end) (sym limit_is))
    where
      same : {X : Type 0} (F : ℕ → List Arc → (ℕ → ℕ → ℕ) → Protected → X) {n n' : ℕ} {hops hops' : List Arc} {d d' : ℕ → ℕ → ℕ} {r r' : Protected} →
          n ≡ n' → hops ≡ hops' → d ≡ d' → r ≡ r' → F n hops d r ≡ F n' hops' d' r'
      same F e₁ e₂ e₃ e₄ = rw (e₁, e₂, e₃, e₄)

  module _ (has_cells : HasInput q some_cells) where
    -- The space, the pair of a link and the pair of a prefix are document 01's.
    pub space_searched : (s : Space) → space_by s links q.link q.end after ≡ with_distances (network_asked q) (λ d. space_of s (network_asked q).routers (arcs (network_asked q)) d (link_asked q))
    unfolding with_distances
    space_searched s = space_found (asking has_cells) s ∙ of_network (λ n hops d r. space_of s n hops d r)

    pub link_searched : link_by links q.ranks q.link q.end after ≡ link_found q
    unfolding link_found with_distances
    link_searched = link_found_lem (asking has_cells) q.ranks ∙ of_network (λ n hops d r. link_outcome q.ranks n hops d r)

-- For a prefix the whole network is asked.
module _ {q : Question} (p : Posed q) (network : Network) (t : Taken q.file (link_part network)) (whole : network ≡ struct_of (network_of q.file)) (area : List ℕ) (cells_are : q.cells ≡ length area) (limit_is : q.maintenance ≡ under_maintenance) {after : List ℕ} (full : after ≡ filled (network_of q.file) area) (h : HasInput q a_link) (has_cells : HasInput q some_cells) where
  pub prefix_searched : HasInput q a_prefix → prefix_by network q.ranks q.link q.end q.prefix after ≡ prefix_found q
  unfolding prefix_found with_distances prefix_asked network_asked
  prefix_searched has-prefix =
      let x-in : q.prefix < network.links.prefixes = rw (prefixes_are t, ← prefix_count q.file t.is_accepted) (p.prefix has-prefix) in
      let to = slots_in network.at network.own (8 * q.prefix) (get_or network.attached q.prefix 0) in
      let net = network_of q.file in
      prefix_found_lem network (asking p t area cells_are limit_is full h has_cells) q.ranks q.prefix (prefix_cell t network whole q.prefix x-in) (prefix_slots t network whole q.prefix x-in refl)
      ∙ of_network p t area cells_are limit_is full h (λ n hops d r. prefix_outcome q.ranks n hops d r to)
      ∙ ap (λ (to : lfa.Target). prefix_outcome q.ranks net.routers (arcs net) (distance_in (distances net)) (link_asked q) to) (prefix_target t network whole q.prefix x-in refl)
