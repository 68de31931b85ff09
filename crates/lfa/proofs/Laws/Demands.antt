-- The three demands hold: what the laws of the table, of distances, walks, spaces, pairs and routes say of a question, put together.
-- Assumes nothing.
use Rattle.std.specs.Prelude.{ℕ, ◌<◌, ◌≡◌, ◌⊎◌, ◌↔◌, [], get_or, length}
use Rattle.std.proofs.Common.{sym, ◌∙◌, subst, inl, inr}
use Rattle.lfa.specs.Network.{router}
use Rattle.lfa.specs.Space.{space_of}
use Rattle.lfa.specs.Repair.{MayCross, prefix_unreachable, prefix_untouched}
use Rattle.lfa.specs.Question.{Question, Source, link_repair, a_link, HasInput, network_asked, link_asked, prefix_asked, with_distances, link_found, prefix_found}
use Rattle.lfa.specs.Refusal.{Posed}
use Rattle.lfa.specs.Answer.{untouched, unreached, computed, answer_to}
use Rattle.lfa.specs.Demands.{N, Hops, D, HasThis, Demand2, Repaired, Demand3, Demands}
use Rattle.lfa.proofs.Laws.Accepted.{accepted_capped}
use Rattle.lfa.proofs.Laws.Asked.{posed_work, answer_chosen}
use Rattle.lfa.proofs.Laws.Work.{work_cell, later_cell}
use Rattle.lfa.proofs.Laws.Space.{space_holds, space_size}
use Rattle.lfa.proofs.Laws.Repair.{SearchMeans, PrefixMeans, unreachable_when, untouched_when}
use Rattle.lfa.proofs.Laws.Serve.{far_serves}
use Rattle.lfa.proofs.Laws.Demand1.{the_demand_1}
use Rattle.lfa.proofs.Laws.HasThis.{sound, least_costs, named, has_this, serves_it, first_repair, repaired, crossing_searched}
use Rattle.lfa.proofs.Laws.Replies.{computes, link_answer, link_has_link, link_meaning, prefix_has_link, prefix_meaning, Tells, prefix_tells, has_buffer, space_has_link, prefix_has_prefix, route_has_prefix, nothing_written, prefix_tells_same, pair_found, searched_first, played_named}
use Rattle.lfa.proofs.Laws.Options.{are_options}
use Rattle.lfa.proofs.Laws.Point1.{put_at_65535, point_1}
use Rattle.lfa.proofs.Laws.Ranks.{eight_ranks}
use Rattle.lfa.proofs.Laws.Point2.{ranks_lent, point_2}
use Rattle.lfa.proofs.Laws.Point4.{point_4}
use Rattle.lfa.proofs.Laws.Point7.{point_7}
use Rattle.lfa.proofs.Laws.Failures.{several_failures}
use Rattle.lfa.proofs.Laws.Point5.{point_5}
use Rattle.lfa.proofs.Laws.Point13.{point_13}
use Rattle.lfa.proofs.Laws.PosedWhen.{posed_when}

-- ---- demand 2

the_demand_2 : (q : Question) → Posed q → Demand2 q
unfolding computed with_distances
the_demand_2 q p = record {
  least_costs = least_costs q p;
  distances_left = λ h area x t hx ht. rw (posed_work q p area) (work_cell (network_asked q) area x t hx ht);
  later_cells_untouched = λ h area k l. rw (posed_work q p area) (later_cell (network_asked q) area k l);
  space_held = λ s c. record {
    members = space_of s (N q) (Hops q) (D q) (link_asked q);
    answered = computes q p c;
    exactly = space_holds (N q) (Hops q) (D q) (link_asked q) (sound q p) (named q p (space_has_link q.call s c)) s;
    size = space_size (N q) (Hops q) (D q) (link_asked q) (sound q p) (named q p (space_has_link q.call s c)) s;
  };
  link_repair_first = λ c t r.
      first_repair q p (link_has_link q p c) _ (subst (SearchMeans (N q) (Hops q) (D q) (link_asked q) q.ranks (router (link_asked q).far)) (answer_chosen (link_found q) t (sym (link_answer q p c) ∙ r)) (link_meaning q p c));
  prefix_repair_first = λ c t r.
      let h = prefix_has_prefix q.call c in
      let f = subst (PrefixMeans (N q) (Hops q) (D q) (link_asked q) q.ranks (prefix_asked q)) (answer_chosen (prefix_found q) t (sym (computes q p c) ∙ r)) (prefix_meaning q p h) in
      (f.0, first_repair q p (prefix_has_link q p h) _ f.1);
  unreachable_when = λ h. both (prefix_tells q p h).is_unreached (unreachable_when q.ranks (N q) (Hops q) (D q) (link_asked q) (prefix_asked q) (prefix_found q) (prefix_meaning q p h));
  untouched_when = λ h. both (prefix_tells q p h).is_untouched (untouched_when q.ranks (N q) (Hops q) (D q) (link_asked q) (prefix_asked q) (prefix_found q) (prefix_meaning q p h));
  write_nothing = λ h a. nothing_written q p (has_buffer q.call h).1 (either (prefix_tells q p (route_has_prefix q.call (has_buffer q.call h).1)) a);
  options_are = λ to x. are_options (N q) (Hops q) (D q) to (sound q p).within x;
  route_14 = λ c. both (prefix_tells q p (route_has_prefix q.call c)).is_14 (turned (prefix_tells_same q p c).is_14);
  route_named = λ c t r.
      let found = pair_found q p c r in
      (first_repair q p (prefix_has_link q p (route_has_prefix q.call c)) _ (searched_first q p c found), played_named q p c found);
}
  where
    both : {A B C : Type 0} → A ↔ B → B ↔ C → A ↔ C
    both f g = (λ a. g.0 (f.0 a), λ c. f.1 (g.1 c))

    turned : {A B : Type 0} → A ↔ B → B ↔ A
    turned f = (f.1, f.0)

    either : Tells (answer_to q) (prefix_found q) → (answer_to q ≡ unreached) ⊎ (answer_to q ≡ untouched) → (prefix_found q ≡ prefix_unreachable) ⊎ (prefix_found q ≡ prefix_untouched)
    either t (inl e) = inl (t.is_unreached.0 e)
    either t (inr e) = inr (t.is_untouched.0 e)

-- ---- demand 3

-- what has this for the far end has it for every prefix whose traffic may cross the link
also_for_prefix : (q : Question) (s : Posed q) → HasInput q a_link → {n y : ℕ} → n < N q → y < N q → HasThis q (router (link_asked q).far) n y →
    (p : ℕ) → p < length (network_asked q).prefixes → MayCross (Hops q) (D q) (link_asked q) (get_or (network_asked q).prefixes p []) → HasThis q (get_or (network_asked q).prefixes p []) n y
unfolding network_asked
also_for_prefix q s l {n} {y} hn hy h p hp may =
    has_this q s l _ n y hn hy
    (far_serves (N q) (Hops q) (D q) (link_asked q) (sound q s) (least_costs q s) (named q s l) _ (accepted_capped q.file s.file p hp) may n y hy (serves_it q s l _ n y h))

the_demand_3 : (q : Question) → Posed q → Demand3 q (answer_to q)
unfolding computed
the_demand_3 q p = record {
  prefix_repaired = λ c may.
      let h = prefix_has_prefix q.call c in
      rw (computes q p c) (repaired q p (prefix_has_link q p h) (prefix_asked q) (prefix_found q) (crossing_searched q.ranks (N q) (Hops q) (D q) (link_asked q) (prefix_asked q) may (prefix_found q) (prefix_meaning q p h)));
  link_repaired = link;
  link_has_this = λ c t r.
      let f = (link c).is_repair t r in
      (f.has_this, also_for_prefix q p (link_has_link q p c) (rw f.tells.first_is ((sound q p).within.to f.candidate.first_hop.joined)) (rw f.tells.endpoint_is f.candidate.end_in) f.has_this);
}
  where
    link : {from : Source} → q.call ≡ link_repair from → Repaired q (router (link_asked q).far) (answer_to q)
    link c = rw (link_answer q p c) (repaired q p (link_has_link q p c) _ (link_found q) (link_meaning q p c))

-- ---- the demands

pub demands : Demands
demands = record { demand_1 = the_demand_1; demand_2 = the_demand_2; demand_3 = the_demand_3; put_at_65535 = put_at_65535; point_1 = point_1; ranks_lent = ranks_lent; eight_ranks = eight_ranks; point_2 = λ q. point_2 q (the_demand_3 q); point_4 = λ q p. point_4 q p (the_demand_2 q p) (the_demand_3 q p); point_5 = λ q p. point_5 q p (the_demand_2 q p); point_7 = point_7; point_9 = λ b a p. several_failures b a p the_demand_2; point_13 = point_13; posed_when = posed_when }
