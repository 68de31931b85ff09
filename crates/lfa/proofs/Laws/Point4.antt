-- Point 4 holds: an attached S is untouched, an attached first hop serves as its own endpoint, an attached router has delivery as its only
-- option; and where no tight hop leaves an attached router, what fixes the answers is what it was (`Laws/Former.antt`).
-- Assumes nothing.
use Rattle.std.specs.Prelude.{ℕ, ◌<◌, ◌≡◌, ◌↔◌}
use Rattle.std.proofs.Common.{sym, arith}
use mathlib.Core.List.{Memᴰ}
use Rattle.lfa.specs.Network.{arc, Target, Attached, router}
use Rattle.lfa.specs.Distance.{unreachable, LeastCosts, towards}
use Rattle.lfa.specs.Walk.{Crosses, Arrives, CrossesBy, ArrivesBy}
use Rattle.lfa.specs.Former.{FormerStep, FormerDelivers, OwnCostsBelow}
use Rattle.lfa.specs.Space.{FirstHop, IsFirstHop}
use Rattle.lfa.specs.Ranks.{rank_of}
use Rattle.lfa.specs.Repair.{Pair, Told, Keys}
use Rattle.lfa.specs.Question.{Question, a_prefix, HasInput, network_asked, link_asked, prefix_asked}
use Rattle.lfa.specs.Refusal.{Posed}
use Rattle.lfa.specs.Answer.{Answer, answer_to}
use Rattle.lfa.specs.Demands.{N, Hops, D, Candidate, HasThisBy, HasThis, FormerlyHasThis, RepairedBy, Demand2, Demand3, AsBefore, Point4}
use Rattle.lfa.proofs.Laws.Attached.{attached_near}
use Rattle.lfa.specs.Sound.{Descends, level}
use Rattle.lfa.proofs.Laws.Bound.{Capped, towards_arrives}
use Rattle.lfa.proofs.Laws.Former.{other_walk, step_was, crossed, was_reachable, same_steps, same_deliveries, same_options, same_crossing, same_arrival, router_below, one_cost_below}
use Rattle.lfa.proofs.Laws.Network.{limits_two}
use Rattle.lfa.proofs.Laws.Accepted.{accepted_limits, accepted_descend, accepted_capped}
use Rattle.lfa.proofs.Laws.Options.{only_delivery}
use Rattle.lfa.proofs.Laws.OnlyOne.{only_answer}
use Rattle.lfa.proofs.Laws.Serve.{attached_serves}
use Rattle.lfa.proofs.Laws.HasThis.{sound, least_costs, named, has_this}
use Rattle.lfa.proofs.Laws.Replies.{prefix_has_link}

-- A pair has this by some walks where it has it by others: on each leg the one arrive where the others do, and cross no more links.
other_this : {steps others : Target → ℕ → ℕ → ℕ → Type 0} {ends other-ends : Target → ℕ → Type 0} {routers l : ℕ} {to : Target} {n y : ℕ} →
    (ArrivesBy (steps (router y)) (ends (router y)) routers n → ArrivesBy (others (router y)) (other-ends (router y)) routers n) →
    ((u v : ℕ) → CrossesBy (others (router y)) n l u v → CrossesBy (steps (router y)) n l u v) →
    (ArrivesBy (steps to) (ends to) routers y → ArrivesBy (others to) (other-ends to) routers y) →
    ((u v : ℕ) → CrossesBy (others to) y l u v → CrossesBy (steps to) y l u v) → HasThisBy steps ends routers l to n y → HasThisBy others other-ends routers l to n y
other_this arrives crosses arrives-on crosses-on h = record {
  first_leg_arrives = arrives h.first_leg_arrives;
  first_leg_misses = λ u v r. h.first_leg_misses u v (crosses u v r);
  second_leg_arrives = arrives-on h.second_leg_arrives;
  second_leg_misses = λ u v r. h.second_leg_misses u v (crosses-on u v r);
}

-- What an answer owes by one meaning of "has this" it owes by any other that holds of the same pairs.
other_repaired : {q : Question} {by : Told → Keys} {has others : ℕ → ℕ → Type 0} {to : Target} {answer : Answer} → ((n y : ℕ) → has n y ↔ others n y) →
    RepairedBy q by has to answer → RepairedBy q by others to answer
other_repaired same r = record {
  repair_or_14 = r.repair_or_14;
  is_repair = λ t e.
      let f = r.is_repair t e in
      record {
        pair = f.pair;
        candidate = f.candidate;
        tells = f.tells;
        has_this = (same t.first t.endpoint).0 f.has_this;
        earliest = λ p other is told h. f.earliest p other is told ((same other.first other.endpoint).1 h);
      };
  exactly = (
    λ e p is h. r.exactly.0 e p is ((same p.hop.router p.endpoint).1 h),
    λ none. r.exactly.1 (λ p is h. none p is ((same p.hop.router p.endpoint).0 h)),
  );
}

module _ (q : Question) (p : Posed q) (d2 : Demand2 q) (d3 : Demand3 q (answer_to q)) where
  descends : Descends (Hops q) level
  unfolding network_asked
  descends = accepted_descend q.file p.file

  dist : LeastCosts (Hops q) (D q)
  dist = least_costs q p

  -- the first leg is towards a router, where nothing changes
  tunnel : (y : ℕ) → OwnCostsBelow (Hops q) (D q) (router y)
  tunnel y = router_below (D q) descends dist y

  same_this : (to : Target) → OwnCostsBelow (Hops q) (D q) to → (n y : ℕ) → HasThis q to n y ↔ FormerlyHasThis q to n y
  same_this to below n y = (
    other_this (arrival n).0 (λ u v. crossing.1) (arrival_on y).0 (λ u v. crossing_on.1),
    other_this (arrival n).1 (λ u v. crossing.0) (arrival_on y).1 (λ u v. crossing_on.0),
  )
    where
      arrival : (x : ℕ) → Arrives (Hops q) (D q) (router y) (N q) x ↔ ArrivesBy (FormerStep (Hops q) (D q) (router y)) (FormerDelivers (D q) (router y)) (N q) x
      arrival = same_arrival (Hops q) (D q) dist (router y) (tunnel y) (N q)

      crossing : {x l u v : ℕ} → Crosses (Hops q) (D q) (router y) x l u v ↔ CrossesBy (FormerStep (Hops q) (D q) (router y)) x l u v
      crossing = same_crossing (Hops q) (D q) dist (router y) (tunnel y)

      arrival_on : (x : ℕ) → Arrives (Hops q) (D q) to (N q) x ↔ ArrivesBy (FormerStep (Hops q) (D q) to) (FormerDelivers (D q) to) (N q) x
      arrival_on = same_arrival (Hops q) (D q) dist to below (N q)

      crossing_on : {x l u v : ℕ} → Crosses (Hops q) (D q) to x l u v ↔ CrossesBy (FormerStep (Hops q) (D q) to) x l u v
      crossing_on = same_crossing (Hops q) (D q) dist to below

  as_before : (to : Target) → OwnCostsBelow (Hops q) (D q) to → AsBefore q to
  as_before to below = record {
    steps = same_steps (Hops q) (D q) dist to below;
    deliveries = same_deliveries (Hops q) (D q) dist to below;
    options_were = λ x. same_options (Hops q) (D q) dist to below x _ (d2.options_are to x);
    may_cross_lem = same_crossing (Hops q) (D q) dist to below;
    has_this = same_this to below;
    repaired = λ answer. other_repaired (same_this to below);
    only_answer = only_answer q (λ t. rank_of q.ranks t.class) (FormerlyHasThis q to) to;
  }

  -- The first leg is as before; every walk of the second is the start of one of then, and arrives since the target is within reach.
  still : (to : Target) (r : Pair) → Candidate q r → FormerlyHasThis q to r.hop.router r.endpoint → HasThis q to r.hop.router r.endpoint
  still to r is =
      let y = r.endpoint in
      other_this (same_arrival (Hops q) (D q) dist (router y) (tunnel y) (N q) r.hop.router).1 (λ u v. crossed)
      (λ a. towards_arrives (N q) (Hops q) (D q) (sound q p) dist to y is.end_in (was_reachable a)) (λ u v. crossed)

  capped : HasInput q a_prefix → Capped (prefix_asked q)
  unfolding network_asked prefix_asked
  capped h = accepted_capped q.file p.file q.prefix (p.prefix h)

  reached : HasInput q a_prefix → {x : ℕ} → Attached (prefix_asked q) x → towards (D q) (prefix_asked q) x < unreachable
  reached h a = omega (arith, attached_near (Hops q) (D q) (least_costs q p) a, (capped h).own a.listed)

  two : {x z c l : ℕ} → Memᴰ (arc x z c l) (Hops q) → x ≡ z → ⊥
  unfolding network_asked
  two m = limits_two _ (accepted_limits q.file p.file) m

  serves : HasInput q a_prefix → (f : FirstHop) → IsFirstHop (Hops q) (link_asked q) f → Attached (prefix_asked q) f.router →
      Candidate q (record { hop = f; endpoint = f.router }) × HasThis q (prefix_asked q) f.router f.router
  serves h f is a =
      let l = prefix_has_link q p h in
      let inside : f.router < N q = (sound q p).within.to is.joined in (
        record { first_hop = is; end_in = inside; end_not_near = λ e. two is.joined (sym e); end_not_far = is.not_far },
        has_this q p l (prefix_asked q) f.router f.router inside inside
            (attached_serves (N q) (Hops q) (D q) (link_asked q) (sound q p) (least_costs q p) (named q p l) (prefix_asked q) f.router a (reached h a)),
      )

  pub point_4 : Point4 q
  point_4 = record {
    steps_are = λ to x z l. (
      λ s. (step_was x z l s, s.unattached),
      λ s. record { cost = s.0.cost; joined = s.0.joined; unattached = s.1; tight = s.0.tight; finite = s.0.finite },
    );
    deliveries_are = λ to x. (λ t. (t.attached, t.finite), λ t. record { attached = t.0; finite = t.1 });
    near_untouched = λ h a. (d2.untouched_when h).1 (reached h a, λ may. may.step.unattached a);
    hop_serves = serves;
    only_delivery = λ h x a. only_delivery (N q) (Hops q) (D q) (prefix_asked q) x (record { attached = a; finite = reached h a });
    walks_were = λ to x u k. other_walk step_was;
    still_has_this = still;
    none_had_this = λ c may e r is h. (d3.prefix_repaired c may).exactly.0 e r is (still (prefix_asked q) r is h);
    routers_as_before = λ t. as_before (router t) (tunnel t);
    below_as_before = as_before;
    one_cost_as_before = λ h cost same. as_before (prefix_asked q) (one_cost_below (D q) (prefix_asked q) descends (capped h) cost same);
  }
