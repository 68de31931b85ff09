-- Played routes: exactly one route is named by choice bytes, and the computed one is it; its legs are walks, it ends in delivery, and it
-- has at most 2 × N routers.
-- Assumes nothing.
use Prim.Native.Nat.{ℕ, ◌*◌, ◌≤◌, ◌<◌}
use Rattle.std.specs.Prelude.{◌≡◌, refl}
use Rattle.std.proofs.Common.{sym, ap₂, ◌∙◌, arith, length-append}
use mathlib.Core.List.{List, ◌∷◌, ◌++◌}
use Rattle.std.proofs.Math.ListN.{length}
use Rattle.lfa.specs.Network.{Arc, Target, router}
use Rattle.lfa.specs.Distance.{unreachable, LeastCosts, towards}
use Rattle.lfa.specs.Walk.{Delivers}
use Rattle.lfa.specs.Route.{options, NamedRoute, play_to, play_on, route_of}
use Rattle.lfa.proofs.Laws.Arrive.{rank_few, walk_few}
use Rattle.lfa.proofs.Laws.Bound.{falls}
use Rattle.lfa.specs.Sound.{Sound}
use Rattle.lfa.proofs.Laws.Legs.{first_leg_once, second_leg_once, bytes_used, Trace, trace_walk, first_leg_walk, second_leg_walk, first_leg_played, second_leg_played}

-- Choice bytes name one route: one first leg, after it as many bytes used, and then one second leg.
pub route_once : {n : ℕ} {hops : List Arc} {d : ℕ → ℕ → ℕ} {to : Target} {choices : List ℕ} {s m y : ℕ} {route other : List ℕ} →
    NamedRoute n hops d to choices s m y route → NamedRoute n hops d to choices s m y other → route ≡ other
route_once {n} {hops} {d} {to} {choices} {s} {m} {y} p q =
    let e = first_leg_once (options n hops d (router y)) choices p.first_leg q.first_leg in
    let f = second_leg_once (options n hops d to) choices (rw e.1 at p.second_leg) q.second_leg in
    p.whole ∙ ap₂ (λ (a b : List ℕ). s ∷ m ∷ (a ++ b)) e.0 f ∙ sym q.whole

-- what a named route is: both legs are walks, it ends in delivery, and it has at most 2 × N routers
pub record FollowsWalks (n : ℕ) (hops : List Arc) (d : ℕ → ℕ → ℕ) (to : Target) (s m y : ℕ) (route : List ℕ) : Type 0 where
  pub tunnel : List ℕ
  pub rest : List ℕ
  pub last : ℕ
  pub whole : route ≡ s ∷ m ∷ (tunnel ++ rest)
  pub first_leg : Trace hops d (router y) m tunnel y
  pub second_leg : Trace hops d to y rest last
  pub delivery : Delivers d to last
  pub fits : length route ≤ 2 * n

module _ (n : ℕ) (hops : List Arc) (d : ℕ → ℕ → ℕ) (to : Target) (choices : List ℕ) (s m y : ℕ) (sound : Sound n hops) (dist : LeastCosts hops d)
    (hm : m < n) (hy : y < n) (fm : towards d (router y) m < unreachable) (fy : towards d to y < unreachable) where
  -- The computed route is the one that the choice bytes name: both legs are, and the second starts with the byte after those of the
  -- first, which are as many as the routers that the first has arrived at.
  pub route_named : NamedRoute n hops d to choices s m y (route_of n hops d to choices s m y)
  unfolding route_of
  route_named =
      let (m₁, falls₁) = falls sound d (router y) in
      let (m₂, falls₂) = falls sound d to in
      let leg : List ℕ = play_to n (options n hops d (router y)) choices y 0 m in
      let first = first_leg_played n hops d y m₁ dist sound.within falls₁ choices n 0 m fm (rank_few m₁ n m hm) in
      let used : first.0 ≡ length leg = omega (arith, bytes_used (options n hops d (router y)) choices first.1) in
      let second = second_leg_played n hops d to m₂ dist sound.within falls₂ choices n (length leg) y fy (rank_few m₂ n y hy) in
      record {
        tunnel = leg;
        rest = play_on n (options n hops d to) choices (length leg) y;
        used = length leg;
        first_leg = rw used at first.1;
        second_leg = second;
        whole = refl;
      }

  -- A named route follows walks. Each leg is a walk, and a walk has fewer hops than there are routers, so that both legs with S and the
  -- first hop have at most 2 × N routers.
  pub route_walks : {route : List ℕ} → NamedRoute n hops d to choices s m y route → FollowsWalks n hops d to s m y route
  route_walks r =
      let (m₁, falls₁) = falls sound d (router y) in
      let (m₂, falls₂) = falls sound d to in
      let t₁ = first_leg_walk n hops d dist sound.within fm r.first_leg in
      let t₂ = second_leg_walk n hops d dist sound.within fy r.second_leg in
      record {
        tunnel = r.tunnel;
        rest = r.rest;
        last = t₂.0;
        whole = r.whole;
        first_leg = t₁;
        second_leg = t₂.1;
        delivery = t₂.2;
        fits =
            rw r.whole (
            simp length-append (
            omega (arith, walk_few hops d (router y) n m₁ sound.within falls₁ hm (trace_walk t₁), walk_few hops d to n m₂ sound.within falls₂ hy (trace_walk t₂.1))));
      }
