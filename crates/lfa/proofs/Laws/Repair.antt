-- What a link repair and a prefix repair find, over any sound network.
-- Assumes nothing.
use Rattle.std.specs.Prelude.{ℕ, ◌≤◌, ◌<◌, ◌≡◌, ◌⊎◌, ◌↔◌, Bool, true, false, List, ltb}
use Rattle.std.proofs.Math.Path.{refl, subst}
use Rattle.std.proofs.Common.{sym, ◌∙◌, inl, inr, true≢false, arith, ltb-true, ltb-false}
use Rattle.std.proofs.Math.Option.{Option, none, some}
use Rattle.lfa.specs.Network.{Arc, arc, Target, router}
use Rattle.lfa.specs.Distance.{unreachable, towards}
use Rattle.lfa.specs.Walk.{Step, here, hop, is_step}
use Rattle.lfa.specs.Space.{Protected}
use Rattle.lfa.specs.Repair.{Pair, IsPair, Serves, MayCross, may_cross, HasClass, class_of, Told, Tells, told_of, keys_of, First, first_pair, Outcome, prefix_unreachable, prefix_untouched, none_serves, serving, outcome_of, link_outcome, prefix_outcome}
use Rattle.lfa.proofs.Laws.Test.{same_test}
use Rattle.lfa.proofs.Laws.Target.{towards_most}
use Rattle.lfa.proofs.Laws.Arrive.{never_twice}
use Rattle.lfa.proofs.Laws.Bound.{falls}
use Rattle.lfa.specs.Sound.{Sound, Named}
use Rattle.lfa.proofs.Laws.Avoid.{step_gives, step_make, crosses_gives, crosses_make}
use Rattle.lfa.proofs.Laws.Class.{class_has, class_once}
use Rattle.lfa.proofs.Laws.Pair.{Best, best}

-- What is computed of a pair is what a repair tells of it, and nothing else is.
module _ (n : ℕ) (hops : List Arc) (d : ℕ → ℕ → ℕ) (q : Protected) (to : Target) (p : Pair) where
  -- what holds of the pair's routers holds of those that are told
  pub told_routers : {t : Told} → t ≡ told_of n hops d q to p → (P : ℕ → ℕ → Type 0) → P p.hop.router p.endpoint → P t.first t.endpoint
  unfolding told_of
  told_routers e P h = subst (λ (s : Told). P s.first s.endpoint) (sym e) h

  module _ (sound : Sound n hops) (is : IsPair n hops q p) where
    own_class : HasClass hops d q to p.hop.router p.endpoint (class_of n hops d q to p)
    own_class = class_has n hops d q to p sound (sound.within.to is.first_hop.joined) is.end_in

    pub told_tells : Tells hops d q to p (told_of n hops d q to p)
    unfolding told_of
    told_tells = record { first_is = refl; endpoint_is = refl; class_is = own_class; cost_is = refl }

    pub tells_told : {t : Told} → Tells hops d q to p t → t ≡ told_of n hops d q to p
    unfolding told_of
    tells_told {t} s =
        let e : record { first = t.first; endpoint = t.endpoint; class = t.class; cost = t.cost } ≡ told_of n hops d q to p = rw (s.first_is, s.endpoint_is, class_once s.class_is own_class, s.cost_is) in
        e

module _ (n : ℕ) (hops : List Arc) (d : ℕ → ℕ → ℕ) (q : Protected) where
  -- no pair serves
  abbrev pub NoneServes : Target → Type 0
  NoneServes to = (p : Pair) → IsPair n hops q p → Serves hops d q to p.hop.router p.endpoint → ⊥

  -- what is told is of a pair that serves, and is first of those that do
  pub record IsFirstPair (ranks : List ℕ) (to : Target) (t : Told) : Type 0 where
    pub pair : Pair
    pub is_pair : IsPair n hops q pair
    pub serves : Serves hops d q to pair.hop.router pair.endpoint
    pub earliest : (p : Pair) → IsPair n hops q p → Serves hops d q to p.hop.router p.endpoint → First (keys_of ranks d q t) (keys_of ranks d q (told_of n hops d q to p))
    pub told_is : t ≡ told_of n hops d q to pair

  -- what a search for a pair means
  abbrev pub SearchMeans : (ranks : List ℕ) → Target → Outcome → Type 0
  SearchMeans ranks to prefix_unreachable = ⊥
  SearchMeans ranks to prefix_untouched = ⊥
  SearchMeans ranks to none_serves = NoneServes to
  SearchMeans ranks to (serving t) = IsFirstPair ranks to t

  -- what a prefix repair's outcome means
  abbrev pub PrefixMeans : (ranks : List ℕ) → Target → Outcome → Type 0
  PrefixMeans ranks to prefix_unreachable = unreachable ≤ towards d to q.near
  PrefixMeans ranks to prefix_untouched = (towards d to q.near < unreachable) × (MayCross hops d q to → ⊥)
  PrefixMeans ranks to none_serves = MayCross hops d q to × NoneServes to
  PrefixMeans ranks to (serving t) = MayCross hops d q to × IsFirstPair ranks to t

module _ (n : ℕ) (hops : List Arc) (d : ℕ → ℕ → ℕ) (q : Protected) (sound : Sound n hops) (named : Named hops q) where
  -- the outcome of the search is what was chosen
  pub search_means : (ranks : List ℕ) (to : Target) → SearchMeans n hops d q ranks to (outcome_of n hops d q to (first_pair ranks n hops d q to))
  unfolding outcome_of
  search_means ranks to = go (first_pair ranks n hops d q to) (best n hops d q to sound ranks)
    where
      go : (o : Option Pair) → Best n hops d q to sound ranks o → SearchMeans n hops d q ranks to (outcome_of n hops d q to o)
      go none f = f
      go (some p) f = record { pair = p; is_pair = f.0; serves = f.1; earliest = f.2; told_is = refl }

  pub link_means : (ranks : List ℕ) → SearchMeans n hops d q ranks (router q.far) (link_outcome ranks n hops d q)
  unfolding link_outcome
  link_means ranks = search_means ranks (router q.far)

  -- whether traffic from S may cross the link is decided
  pub may_gives : (to : Target) → may_cross n hops d q to ≡ true → MayCross hops d q to
  unfolding may_cross
  may_gives to e = crosses_gives n hops d to q.number q.near q.far q.near e

  pub may_make : (to : Target) → MayCross hops d q to → may_cross n hops d q to ≡ true
  unfolding may_cross
  may_make to r = let g = falls sound d to in crosses_make n hops d to g.0 sound.within g.1 (sound.within.from named.outward) r

  -- Traffic from S may cross the link exactly when the hop from S to E is a step at S: a walk does not come back to S, and the link does
  -- not lead from S to S.
  pub may_test : (to : Target) → may_cross n hops d q to ≡ is_step d to q.near (arc q.near q.far q.out q.number)
  may_test to = same_test _ _ (λ t. there (may_gives to t)) back
    where
      there : MayCross hops d q to → is_step d to q.near (arc q.near q.far q.out q.number) ≡ true
      there r = by (named.only r.step.joined)
        where
          by : ((q.near ≡ q.near) × (q.far ≡ q.far) × (r.step.cost ≡ q.out)) ⊎ ((q.near ≡ q.far) × (q.far ≡ q.near) × (r.step.cost ≡ q.back)) →
              is_step d to q.near (arc q.near q.far q.out q.number) ≡ true
          by (inl k) = rw (← k.2) (step_make d to r.step)
          by (inr k) =
              let g = falls sound d to in
              let round : Step hops d to q.far q.far q.number = rw k.0 at r.step in
              absurd (never_twice hops d to n g.0 sound.within g.1 (hop round here))

      back : is_step d to q.near (arc q.near q.far q.out q.number) ≡ true → may_cross n hops d q to ≡ true
      back t = may_make to (record { count = 0; walk = here; step = (step_gives d to q.near named.outward t).1 })

  pub prefix_means : (ranks : List ℕ) (to : Target) → PrefixMeans n hops d q ranks to (prefix_outcome ranks n hops d q to)
  unfolding prefix_outcome
  prefix_means ranks to = reach (ltb (towards d to q.near) unreachable) refl
    where
      searched : Outcome
      searched = outcome_of n hops d q to (first_pair ranks n hops d q to)

      crossing : (b : Bool) → Outcome
      crossing b = elim b [ false ↦ prefix_untouched | true ↦ searched ]

      found : MayCross hops d q to → (o : Outcome) → SearchMeans n hops d q ranks to o → PrefixMeans n hops d q ranks to o
      found x prefix_unreachable f = absurd f
      found x prefix_untouched f = absurd f
      found x none_serves f = (x, f)
      found x (serving t) f = (x, f)

      cross : towards d to q.near < unreachable → (b : Bool) → may_cross n hops d q to ≡ b → PrefixMeans n hops d q ranks to (crossing b)
      cross f true e = found (may_gives to e) searched (search_means ranks to)
      cross f false e = (f, λ r. true≢false (sym (may_make to r) ∙ e))

      reach : (b : Bool) → ltb (towards d to q.near) unreachable ≡ b → PrefixMeans n hops d q ranks to (elim b as (λ _. Outcome) [ false ↦ prefix_unreachable | true ↦ crossing (may_cross n hops d q to) ])
      reach true e = cross (ltb-true _ _ e) (may_cross n hops d q to) refl
      reach false e = ltb-false _ _ e

-- ---- unreachable and untouched

module _ (ranks : List ℕ) (n : ℕ) (hops : List Arc) (d : ℕ → ℕ → ℕ) (q : Protected) (to : Target) where
  -- the outcome is unreachable exactly when D(S,p) is
  pub unreachable_when : (o : Outcome) → PrefixMeans n hops d q ranks to o → (o ≡ prefix_unreachable) ↔ (towards d to q.near ≡ unreachable)
  unreachable_when prefix_unreachable f = (λ e. omega (arith, towards_most d to q.near), λ e. refl)
  unreachable_when prefix_untouched f = (λ e. cc, λ e. absurd (omega (arith, f.0)))
  unreachable_when none_serves f = (λ e. cc, λ e. absurd (omega (arith, f.0.step.finite)))
  unreachable_when (serving t) f = (λ e. cc, λ e. absurd (omega (arith, f.0.step.finite)))

  -- and untouched exactly when D(S,p) is finite and no walk from S crosses the link from S to E
  pub untouched_when : (o : Outcome) → PrefixMeans n hops d q ranks to o → (o ≡ prefix_untouched) ↔ ((towards d to q.near < unreachable) × (MayCross hops d q to → ⊥))
  untouched_when prefix_unreachable f = (λ e. absurd (let z : ◌≡◌ {A = ℕ} 0 1 = cc in omega arith), λ r. absurd (omega (arith, r.0)))
  untouched_when prefix_untouched f = (λ e. f, λ r. refl)
  untouched_when none_serves f = (λ e. absurd (let z : ◌≡◌ {A = ℕ} 0 1 = cc in omega arith), λ r. absurd (r.1 f.0))
  untouched_when (serving t) f = (λ e. absurd (let z : ◌≡◌ {A = ℕ} 0 1 = cc in omega arith), λ r. absurd (r.1 f.0))
