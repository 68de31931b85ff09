-- The route of the pair that was found, said of the columns and the area that the play reads.
-- Assumes nothing.
use Prim.Native.Nat.{ℕ, ◌*◌, ◌≤◌, ◌<◌}
use mathlib.Core.Path.{◌≡◌, refl, sym, ap, ◌∙◌, subst}
use mathlib.Core.List.{List, ◌++◌}
use native.Mathlib.Omega.{arith}
use lib.ListN.{length, get_or, drop}
use Rattle.lfa.specs.Lists.{member_of, any_of}
use Rattle.lfa.specs.File.{byte_at, network_of}
use Rattle.lfa.specs.Space.{Protected, protected}
use Rattle.lfa.specs.Repair.{Told, Outcome, serving}
use Rattle.lfa.specs.Route.{NamedRoute}
use Rattle.lfa.specs.Question.{Question, Source, route, route_buffer, some_cells, a_link, a_prefix, lent, inputs_of, input_number, has_input, network_asked, link_asked, prefix_asked, prefix_found}
use Rattle.lfa.specs.Refusal.{Posed}
use Rattle.lfa.specs.Answer.{played, answer_to, route_after, network_loaded}
use Rattle.lfa.proofs.Laws.Accepted.{accepted_loaded, accepted_descend, accepted_sound, accepted_named, prefix_count}
use Rattle.lfa.proofs.Laws.Replies.{has, told_first_in, told_endpoint_in, played_named}
use Rattle.lfa.proofs.Laws.Work.{work_length}
use Rattle.network_file.specs.declared.network.Network.{Network}
use Rattle.network_file.specs.Struct.{struct_of, link_part}
use Rattle.metric.specs.Columns.{arcs_in}
use Rattle.metric.specs.Area.{held}
use Rattle.metric.specs.Column.{slots_in}
use Rattle.search.specs.Calls.{protected_of, prefix_by}
use Rattle.std.specs.Prelude.{Ok}
use Rattle.question.specs.Turning.{Poses}
use Rattle.question.specs.Laws.Posed.{ready_posed, ready_taken, area_filled_lem}
use Rattle.repair.specs.Laws.Searched.{prefix_searched}
use Rattle.repair.specs.Laws.Named.{hops_are, held_is, prefix_cell, prefix_slots, prefix_target, protected_is}
use Rattle.question.specs.Taken.{Taken}
use Rattle.question.specs.Laws.Loaded.{limits, columns_within, routers_same, prefixes_are}
use Rattle.route.specs.Leg.{Playable}

-- a route question that is posed and not turned away
module _ {q : Question} (network : Network) {area after : List ℕ} (j : Poses q (Ok (link_part network)) area after) (loaded : network ≡ struct_of (network_loaded q.file)) (bytes : (i : ℕ) → byte_at q.file i < 256) {from : Source} (c : q.call ≡ route from) where
  pub p : Posed q
  p = ready_posed j bytes refl

  pub t : Taken q.file (link_part network)
  t = ready_taken j bytes refl

  whole : network ≡ struct_of (network_of q.file)
  whole = loaded ∙ ap struct_of (accepted_loaded q.file t.is_accepted)

  link_there : q.link < length (network_of q.file).links
  unfolding network_asked has_input inputs_of input_number member_of any_of
  link_there = p.link (has q p a_link c refl)

  pub link_cell : q.link < 128
  link_cell = omega (arith, link_there, (limits t).few_links)

  prefix_there : q.prefix < network.links.prefixes
  unfolding network_asked has_input inputs_of input_number member_of any_of
  prefix_there = rw (prefixes_are t, ← prefix_count q.file t.is_accepted) (p.prefix (has q p a_prefix c refl))

  pub prefix_column_lem : q.prefix < 128
  prefix_column_lem = prefix_cell t network whole q.prefix prefix_there

  cells_enough : (network_of q.file).routers * (network_of q.file).routers ≤ length area
  unfolding network_asked has_input inputs_of input_number member_of any_of
  cells_enough = omega (arith, j.cells_are, p.cells (has q p some_cells c refl))

  -- what the search finds is what the prefix repair finds
  pub route_searched : {o : Outcome} → o ≡ prefix_by network q.ranks q.link q.end q.prefix after → o ≡ prefix_found q
  unfolding has_input inputs_of input_number member_of any_of
  route_searched e = e ∙ prefix_searched p network t whole area j.cells_are j.judges.limit_is (area_filled_lem j bytes refl) (has q p a_link c refl) (has q p some_cells c refl) (has q p a_prefix c refl)

  -- the pair that was found
  module _ {told : Told} (found : prefix_found q ≡ serving told) where
    -- the route that is written
    abbrev pub TheRoute : List ℕ
    TheRoute = (played_named q p c found).routers

    pub route_answered : played (length TheRoute) ≡ answer_to q
    route_answered = sym (played_named q p c found).count

    pub buffer_written_lem : (buffer : List ℕ) → TheRoute ++ drop (length TheRoute) buffer ≡ route_after q buffer
    buffer_written_lem buffer = sym ((played_named q p c found).written buffer)

    -- what the play asks, where the repairing router and the number of attachments were read from the columns
    module _ {near count : ℕ} (near_is : near ≡ (protected_of (link_part network) q.link q.end).near) (count_is : count ≡ get_or network.attached q.prefix 0) where
      near_same : near ≡ (protected q.maintenance (network_of q.file) q.link q.end).near
      near_same =
          near_is ∙ ap (λ (r : Protected). r.near) (protected_is t q.link q.end link_there)
          ∙ ap (λ (m : ℕ). (protected m (network_of q.file) q.link q.end).near) (sym j.judges.limit_is)

      abbrev InColumns : List ℕ → Type 0
      InColumns r =
          NamedRoute network.links.routers (arcs_in network.links.from network.links.to network.links.out network.links.back network.links.links) (held network.links.routers after)
          (slots_in network.at network.own (8 * q.prefix) count) q.choices near told.first told.endpoint r

      pub played_route : InColumns TheRoute
      unfolding network_asked link_asked prefix_asked
      played_route = same (routers_same t) (hops_are t) (held_is t area (area_filled_lem j bytes refl)) (prefix_target t network whole q.prefix prefix_there count_is) near_same (played_named q p c found).named
        where
          same : {n n' : ℕ} {hops hops' : List _} {d d' : ℕ → ℕ → ℕ} {to to' : _} {s s' : ℕ} {choices r : List ℕ} {m y : ℕ} → n ≡ n' → hops ≡ hops' → d ≡ d' → to ≡ to' → s ≡ s' →
              NamedRoute n' hops' d' to' choices s' m y r → NamedRoute n hops d to choices s m y r
          same e₁ e₂ e₃ e₄ e₅ r = rw (e₁, e₂, e₃, e₄, e₅) r

      long : network.links.routers * network.links.routers ≤ length after
      long =
          let k : (network_of q.file).routers * (network_of q.file).routers ≤ length after = rw (area_filled_lem j bytes refl) (omega (arith, cells_enough, work_length (network_of q.file) area cells_enough)) in
          subst (λ (n : ℕ). n * n ≤ length after) (sym (routers_same t)) k

      playable : Playable network.links.routers (length after) network.links.links network.links.from network.links.to network.links.out network.links.back network.at (8 * q.prefix) count
      playable = record {
        within = columns_within t;
        descends = rw (hops_are t) (accepted_descend q.file t.is_accepted);
        slots = prefix_slots t network whole q.prefix prefix_there count_is;
        long = long;
      }

      pub play_ready : Playable network.links.routers (length after) network.links.links network.links.from network.links.to network.links.out network.links.back network.at (8 * q.prefix) count
          × (near < network.links.routers) × (told.first < network.links.routers) × (told.endpoint < network.links.routers)
          × ((r : List ℕ) × InColumns r × (length r ≤ q.buffer) × (length r ≤ 2 * network.links.routers))
      unfolding network_asked has_input inputs_of input_number member_of any_of
      play_ready =
          let few = (played_named q p c found).fits in
          let n = routers_same t in
          let sound = accepted_sound q.file t.is_accepted in
          let outward = (accepted_named q.file t.is_accepted q.maintenance q.link q.end link_there).outward in (
            playable,
            omega (arith, near_same, sound.within.from outward),
            omega (arith, told_first_in q p c found),
            omega (arith, told_endpoint_in q p c found),
            (TheRoute, played_route, omega (arith, p.buffer (has q p (lent route_buffer) c refl)), omega arith),
          )
