-- What each call answers to a question that no row before 14 turns away, and what that tells of the network.
-- Assumes nothing.
use Rattle.std.specs.Prelude.{ℕ, ◌<◌, ◌≡◌, ◌⊎◌, ◌↔◌, List, length}
use Rattle.std.proofs.Math.Path.{refl, ap}
use Rattle.std.proofs.Common.{sym, ◌∙◌, subst, inl, inr}
use Rattle.std.proofs.Math.Bool.{true}
use Rattle.std.proofs.lemmas.Bool.{false≢true}
use Rattle.lfa.specs.Lists.{any_of, member_of}
use Rattle.lfa.specs.Network.{router}
use Rattle.lfa.specs.Space.{Space}
use Rattle.lfa.specs.Repair.{Serves, Told, Outcome, prefix_unreachable, prefix_untouched, none_serves, serving}
use Rattle.lfa.specs.Route.{route_of}
use Rattle.lfa.specs.Question.{Question, Source, own_fill, lent_table, cells_from, Call, load, fill, space, link_repair, prefix_repair, route, ask_prefix, to_prefix_repair, route_buffer, a_link, a_prefix, lent, Input, inputs_of, input_number, has_input, HasInput, network_asked, link_asked, prefix_asked, with_distances, link_found, prefix_found}
use Rattle.lfa.specs.Refusal.{EarlyRow, short_area, wrong_table, short_buffer, bad_ranks, no_such_link, no_such_prefix, EarlyApplies, entry_of, tries, tries_early, Posed}
use Rattle.lfa.specs.Answer.{refused, Answer, untouched, unreached, repair, repair_answer, route_answer, route_for, route_played, computed, answer_to, route_after}
use Rattle.lfa.specs.Demands.{N, Hops, D, RouteNamed}
use Rattle.lfa.proofs.Laws.PosedWhen.{posed_passes, passes_posed}
use Rattle.lfa.proofs.Laws.Asked.{posed_answer, posed_route, answer_chosen}
use Rattle.lfa.proofs.Laws.Repair.{SearchMeans, PrefixMeans, IsFirstPair, link_means, prefix_means, told_routers}
use Rattle.lfa.proofs.Laws.Route.{route_named, route_once, route_walks}
use Rattle.lfa.proofs.Laws.HasThis.{sound, least_costs, named}

-- ---- what each call answers

module _ (q : Question) (p : Posed q) where
  pub computes : {c : Call} → q.call ≡ c → answer_to q ≡ computed q c
  computes c = posed_answer q p ∙ ap (computed q) c

  pub has : {c : Call} (i : Input) → q.call ≡ c → has_input c i ≡ true → HasInput q i
  has i c h = ap (λ c. has_input c i) c ∙ h

  -- the link repair
  pub link_answer : {from : Source} → q.call ≡ link_repair from → answer_to q ≡ repair_answer (link_found q)
  unfolding computed
  link_answer c = computes c

  pub link_has_link : {from : Source} → q.call ≡ link_repair from → HasInput q a_link
  unfolding has_input inputs_of cells_from input_number member_of any_of
  link_has_link c = has a_link c refl

  pub link_meaning : {from : Source} → q.call ≡ link_repair from → SearchMeans (N q) (Hops q) (D q) (link_asked q) q.ranks (router (link_asked q).far) (link_found q)
  unfolding link_found with_distances
  link_meaning c = link_means (N q) (Hops q) (D q) (link_asked q) (sound q p) (named q p (link_has_link c)) q.ranks

  -- the prefix repair, and the route
  pub prefix_has_link : HasInput q a_prefix → HasInput q a_link
  unfolding has_input inputs_of cells_from input_number member_of any_of
  prefix_has_link h = go q.call h
    where
      go : (c : Call) → has_input c a_prefix ≡ true → has_input c a_link ≡ true
      go load h = cc
      go fill h = cc
      go (space s) h = cc
      go (link_repair from) h = cc
      go (prefix_repair from) h = refl
      go (route from) h = refl

  pub prefix_meaning : HasInput q a_prefix → PrefixMeans (N q) (Hops q) (D q) (link_asked q) q.ranks (prefix_asked q) (prefix_found q)
  unfolding prefix_found with_distances
  prefix_meaning h = prefix_means (N q) (Hops q) (D q) (link_asked q) (sound q p) (named q p (prefix_has_link h)) q.ranks (prefix_asked q)

-- what an answer tells of what was found
pub record Tells (answer : Answer) (o : Outcome) : Type 0 where
  pub is_unreached : (answer ≡ unreached) ↔ (o ≡ prefix_unreachable)
  pub is_untouched : (answer ≡ untouched) ↔ (o ≡ prefix_untouched)
  pub is_14 : (answer ≡ refused 14 0) ↔ (o ≡ none_serves)

pub repair_tells : (o : Outcome) → Tells (repair_answer o) o
unfolding repair_answer entry_of
repair_tells prefix_unreachable = record { is_unreached = (λ e. refl, λ e. refl); is_untouched = (λ e. cc, λ e. cc); is_14 = (λ e. cc, λ e. cc) }
repair_tells prefix_untouched = record { is_unreached = (λ e. cc, λ e. cc); is_untouched = (λ e. refl, λ e. refl); is_14 = (λ e. cc, λ e. cc) }
repair_tells none_serves = record { is_unreached = (λ e. cc, λ e. cc); is_untouched = (λ e. cc, λ e. cc); is_14 = (λ e. refl, λ e. refl) }
repair_tells (serving t) = record { is_unreached = (λ e. cc, λ e. cc); is_untouched = (λ e. cc, λ e. cc); is_14 = (λ e. cc, λ e. cc) }

pub route_tells : (o : Outcome) (count : ℕ) → Tells (route_answer o count) o
unfolding route_answer entry_of
route_tells prefix_unreachable count = record { is_unreached = (λ e. refl, λ e. refl); is_untouched = (λ e. cc, λ e. cc); is_14 = (λ e. cc, λ e. cc) }
route_tells prefix_untouched count = record { is_unreached = (λ e. cc, λ e. cc); is_untouched = (λ e. refl, λ e. refl); is_14 = (λ e. cc, λ e. cc) }
route_tells none_serves count = record { is_unreached = (λ e. cc, λ e. cc); is_untouched = (λ e. cc, λ e. cc); is_14 = (λ e. refl, λ e. refl) }
route_tells (serving t) count = record { is_unreached = (λ e. cc, λ e. cc); is_untouched = (λ e. cc, λ e. cc); is_14 = (λ e. cc, λ e. cc) }

module _ (q : Question) (p : Posed q) where
  pub prefix_tells : HasInput q a_prefix → Tells (answer_to q) (prefix_found q)
  unfolding computed has_input inputs_of cells_from input_number member_of any_of
  prefix_tells h = rw (posed_answer q p) (go q.call h)
    where
      go : (c : Call) → has_input c a_prefix ≡ true → Tells (computed q c) (prefix_found q)
      go load h = absurd (false≢true h)
      go fill h = absurd (false≢true h)
      go (space s) h = absurd (false≢true h)
      go (link_repair own_fill) h = absurd (false≢true h)
      go (link_repair lent_table) h = absurd (false≢true h)
      go (prefix_repair from) h = repair_tells (prefix_found q)
      go (route from) h = route_tells (prefix_found q) (length (route_played q))

-- ---- routes

-- only the route call has a route buffer
pub has_buffer : (c : Call) → has_input c (lent route_buffer) ≡ true → (from : Source) × (c ≡ route from)
unfolding has_input inputs_of cells_from input_number member_of any_of
has_buffer load h = absurd (false≢true h)
has_buffer fill h = absurd (false≢true h)
has_buffer (space s) h = absurd (false≢true h)
has_buffer (link_repair own_fill) h = absurd (false≢true h)
has_buffer (link_repair lent_table) h = absurd (false≢true h)
has_buffer (prefix_repair own_fill) h = absurd (false≢true h)
has_buffer (prefix_repair lent_table) h = absurd (false≢true h)
has_buffer (route from) h = (from, refl)

pub space_has_link : (c : Call) (s : Space) → c ≡ space s → has_input c a_link ≡ true
unfolding has_input inputs_of cells_from input_number member_of any_of
space_has_link c s e = ap (λ c. has_input c a_link) e

pub prefix_has_prefix : (c : Call) → {from : Source} → c ≡ prefix_repair from → has_input c a_prefix ≡ true
unfolding has_input inputs_of cells_from input_number member_of any_of
prefix_has_prefix c e = ap (λ c. has_input c a_prefix) e

pub route_has_prefix : (c : Call) → {from : Source} → c ≡ route from → has_input c a_prefix ≡ true
unfolding has_input inputs_of cells_from input_number member_of any_of
route_has_prefix c e = ap (λ c. has_input c a_prefix) e

-- an early row that the prefix repair tries is one that the route tries, and looks at the same of the question
prefix_row : (from : Source) (q : Question) (r : EarlyRow) (v : ℕ) → tries_early (prefix_repair from) r ≡ true → EarlyApplies (to_prefix_repair from q) r v → (tries_early (route from) r ≡ true) × EarlyApplies q r v
unfolding to_prefix_repair network_asked tries entry_of has_input inputs_of cells_from input_number member_of any_of
prefix_row from q short_area v t a = (refl, a)
prefix_row own_fill q wrong_table v t a = absurd (false≢true t)
prefix_row lent_table q wrong_table v t a = (refl, a)
prefix_row own_fill q short_buffer v t a = absurd (false≢true t)
prefix_row lent_table q short_buffer v t a = absurd (false≢true t)
prefix_row from q bad_ranks v t a = (refl, a)
prefix_row from q no_such_link v t a = (refl, a)
prefix_row from q no_such_prefix v t a = (refl, a)

module _ (q : Question) (p : Posed q) {from : Source} (c : q.call ≡ route from) where
  -- where no pair is found, nothing is written
  pub nothing_written : (prefix_found q ≡ prefix_unreachable) ⊎ (prefix_found q ≡ prefix_untouched) → (buffer : List ℕ) → route_after q buffer ≡ buffer
  unfolding route_played route_for
  nothing_written (inl e) buffer = posed_route q p c buffer ∙ rw e
  nothing_written (inr e) buffer = posed_route q p c buffer ∙ rw e

  -- no early row applies to the prefix repair question, since none applies to the route question
  pub prefix_posed : Posed (to_prefix_repair from q)
  unfolding to_prefix_repair
  prefix_posed = passes_posed (to_prefix_repair from q) p.file (λ r v t a. let s = prefix_row from q r v t a in posed_passes q p r v (ap (λ c. tries_early c r) c ∙ s.0) s.1)

  -- the prefix repair tells of the same search
  pub prefix_tells_same : Tells (answer_to (to_prefix_repair from q)) (prefix_found q)
  unfolding to_prefix_repair ask_prefix prefix_found network_asked link_asked prefix_asked has_input inputs_of cells_from input_number member_of any_of
  prefix_tells_same = prefix_tells (to_prefix_repair from q) prefix_posed refl

  pub pair_found : {t : Told} → answer_to (to_prefix_repair from q) ≡ repair t → prefix_found q ≡ serving t
  unfolding computed to_prefix_repair ask_prefix prefix_found network_asked link_asked prefix_asked
  pair_found {t} r = answer_chosen (prefix_found q) t (sym (posed_answer (to_prefix_repair from q) prefix_posed) ∙ r)

  module _ {t : Told} (found : prefix_found q ≡ serving t) where
    pub searched_first : IsFirstPair (N q) (Hops q) (D q) (link_asked q) q.ranks (prefix_asked q) t
    searched_first = (subst (PrefixMeans (N q) (Hops q) (D q) (link_asked q) q.ranks (prefix_asked q)) found (prefix_meaning q p (route_has_prefix q.call c))).1

    -- the route of the pair that was found
    abbrev pub Played : List ℕ
    Played = route_of (N q) (Hops q) (D q) (prefix_asked q) q.choices (link_asked q).near t.first t.endpoint

    played_is : route_played q ≡ Played
    unfolding route_played route_for with_distances
    played_is = ap (route_for q) found

    -- its two legs avoid the link, and its routers are routers
    of_told : (P : ℕ → ℕ → Type 0) → P searched_first.pair.hop.router searched_first.pair.endpoint → P t.first t.endpoint
    of_told = told_routers (N q) (Hops q) (D q) (link_asked q) (prefix_asked q) searched_first.pair searched_first.told_is

    pub told_first_in : t.first < N q
    told_first_in = of_told (λ n y. n < N q) ((sound q p).within.to searched_first.is_pair.first_hop.joined)

    pub told_endpoint_in : t.endpoint < N q
    told_endpoint_in = of_told (λ n y. y < N q) searched_first.is_pair.end_in

    pub played_named : RouteNamed q t.first t.endpoint
    unfolding computed route_answer has_input inputs_of cells_from input_number member_of any_of
    played_named =
        let serves = of_told (Serves (Hops q) (D q) (link_asked q) (prefix_asked q)) searched_first.serves in
        let named =
        route_named (N q) (Hops q) (D q) (prefix_asked q) q.choices (link_asked q).near t.first t.endpoint (sound q p) (least_costs q p)
        told_first_in told_endpoint_in serves.tunnel.reachable serves.onward.reachable in
        let walks =
        route_walks (N q) (Hops q) (D q) (prefix_asked q) q.choices (link_asked q).near t.first t.endpoint (sound q p) (least_costs q p)
        told_first_in told_endpoint_in serves.tunnel.reachable serves.onward.reachable named in
        record {
          routers = Played;
          named = named;
          only = λ other o. route_once o named;
          fits = walks.fits;
          count = computes q p c ∙ rw (found, played_is);
          written = λ buffer. posed_route q p c buffer ∙ rw played_is;
        }
