-- A pair serves exactly when it has what demand 3 asks of a repair, so that the pair that a search puts first is a repair.
-- Assumes nothing.
use Rattle.std.specs.Prelude.{ℕ, ◌<◌, refl, List}
use Rattle.std.proofs.Math.Path.{◌≡◌, subst}
use Rattle.std.proofs.Common.{sym, arith}
use Rattle.std.proofs.Math.Logic.{inl, inr}
use Rattle.lfa.specs.Network.{Arc, Target, router}
use Rattle.lfa.specs.Distance.{LeastCosts}
use Rattle.lfa.specs.Space.{Protected}
use Rattle.lfa.specs.Repair.{Serves, MayCross, Told, told_of, Outcome, prefix_unreachable, prefix_untouched, none_serves, serving}
use Rattle.lfa.specs.Question.{Question, a_link, HasInput, network_asked, link_asked}
use Rattle.lfa.specs.Refusal.{entry_of, Posed}
use Rattle.lfa.specs.Answer.{repair_answer}
use Rattle.lfa.specs.Demands.{N, Hops, D, HasThis, IsRepair, Repaired, TellsOf}
use Rattle.lfa.proofs.Laws.Accepted.{accepted_sound, accepted_distances, accepted_named}
use Rattle.lfa.proofs.Laws.Asked.{answer_chosen}
use Rattle.lfa.proofs.Laws.Network.{protected_number}
use Rattle.lfa.specs.Sound.{Named, Sound}
use Rattle.lfa.proofs.Laws.Repair.{SearchMeans, PrefixMeans, IsFirstPair, told_tells, tells_told}
use Rattle.lfa.proofs.Laws.Serve.{serves_arrives, arrives_reachable}

-- ---- the network of a question

module _ (q : Question) (p : Posed q) where
  pub sound : Sound (N q) (Hops q)
  unfolding network_asked
  sound = accepted_sound q.file p.file

  pub least_costs : LeastCosts (Hops q) (D q)
  unfolding network_asked
  least_costs = accepted_distances q.file p.file

  pub named : HasInput q a_link → Named (Hops q) (link_asked q)
  unfolding network_asked link_asked
  named h = accepted_named q.file p.file q.maintenance q.link q.end (p.link h)

  pub number_is : (link_asked q).number ≡ q.link
  unfolding link_asked
  number_is = protected_number q.maintenance (network_asked q) q.link q.end

-- ---- to serve is to have this

module _ (q : Question) (p : Posed q) (l : HasInput q a_link) (to : Target) (n y : ℕ) where
  pub has_this : n < N q → y < N q → Serves (Hops q) (D q) (link_asked q) to n y → HasThis q to n y
  has_this hn hy s =
      let legs = serves_arrives (N q) (Hops q) (D q) (link_asked q) (sound q p) (least_costs q p) (named q p l) to n y hn hy s in
      record {
        first_leg_arrives = legs.0;
        first_leg_misses = rw (number_is q p) at s.tunnel.none;
        second_leg_arrives = legs.1;
        second_leg_misses = rw (number_is q p) at s.onward.none;
      }

  pub serves_it : HasThis q to n y → Serves (Hops q) (D q) (link_asked q) to n y
  serves_it h =
      let reach = arrives_reachable (N q) (Hops q) (D q) (link_asked q) (sound q p) (least_costs q p) (named q p l) in
      record {
        tunnel = record { reachable = reach (router y) n h.first_leg_arrives; none = rw (number_is q p) h.first_leg_misses };
        onward = record { reachable = reach to y h.second_leg_arrives; none = rw (number_is q p) h.second_leg_misses };
      }

-- ---- what a search means is what the demands say

module _ (q : Question) (p : Posed q) (l : HasInput q a_link) (to : Target) where
  -- the pair that a search puts first is a repair
  pub first_repair : {t : Told} → IsFirstPair (N q) (Hops q) (D q) (link_asked q) q.ranks to t → IsRepair q to t
  unfolding told_of
  first_repair {t} f =
      let p' = f.pair in
      let tells : TellsOf q to p' t = subst (TellsOf q to p') (sym f.told_is) (told_tells (N q) (Hops q) (D q) (link_asked q) to p' (sound q p) f.is_pair) in
      record {
        pair = p';
        candidate = f.is_pair;
        tells = tells;
        has_this = rw (tells.first_is, tells.endpoint_is) (has_this q p l to p'.hop.router p'.endpoint ((sound q p).within.to f.is_pair.first_hop.joined) f.is_pair.end_in f.serves);
        earliest = λ r other is told h.
            let s = serves_it q p l to r.hop.router r.endpoint (rw (told.first_is, told.endpoint_is) at h) in
            rw (tells_told (N q) (Hops q) (D q) (link_asked q) to r (sound q p) is told) (f.earliest r is s);
      }

  pub repaired : (o : Outcome) → SearchMeans (N q) (Hops q) (D q) (link_asked q) q.ranks to o → Repaired q to (repair_answer o)
  unfolding repair_answer entry_of
  repaired prefix_unreachable f = absurd f
  repaired prefix_untouched f = absurd f
  repaired none_serves f = record {
    repair_or_14 = inr refl;
    is_repair = λ t e. absurd (let z : ◌≡◌ {A = ℕ} 0 1 = cc in omega arith);
    exactly = (λ e r is h. f r is (serves_it q p l to r.hop.router r.endpoint h), λ e. refl);
  }
  repaired (serving t) f =
      record {
        repair_or_14 = inl (t, refl);
        is_repair = λ t' e. first_repair (subst (SearchMeans (N q) (Hops q) (D q) (link_asked q) q.ranks to) (answer_chosen (serving t) t' e) f);
        exactly = (λ e. absurd (let z : ◌≡◌ {A = ℕ} 0 1 = cc in omega arith), λ e. absurd (e f.pair f.is_pair (has_it f)));
      }
    where
      has_it : (f : IsFirstPair (N q) (Hops q) (D q) (link_asked q) q.ranks to t) → HasThis q to f.pair.hop.router f.pair.endpoint
      has_it f = has_this q p l to f.pair.hop.router f.pair.endpoint ((sound q p).within.to f.is_pair.first_hop.joined) f.is_pair.end_in f.serves

-- of a prefix whose traffic may cross the link, the repair is that of the search
pub crossing_searched : (ranks : List ℕ) (n : ℕ) (hops : List Arc) (d : ℕ → ℕ → ℕ) (q : Protected) (to : Target) → MayCross hops d q to → (o : Outcome) → PrefixMeans n hops d q ranks to o → SearchMeans n hops d q ranks to o
crossing_searched ranks n hops d q to may prefix_unreachable f = omega (arith, may.step.finite)
crossing_searched ranks n hops d q to may prefix_untouched f = absurd (f.1 may)
crossing_searched ranks n hops d q to may none_serves f = f.1
crossing_searched ranks n hops d q to may (serving t) f = f.1
