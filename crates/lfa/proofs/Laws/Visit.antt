-- Visiting a router: the test that follows the steps hop by hop decides it, and towards routers it is equal to the sums of distances that
-- code computes.
-- Assumes nothing.
use Prim.Native.Nat.{ℕ, suc, ◌+◌, ◌≤◌, ◌<◌, min}
use Rattle.std.specs.Prelude.{◌≡◌, ◌⊎◌, Bool, false, not, ◌&&◌, ◌||◌, List, eqb, ltb}
use Rattle.std.proofs.Math.Path.{refl}
use Rattle.std.proofs.Math.Logic.{inl, inr}
use Rattle.std.proofs.Math.Bool.{true}
use Rattle.std.proofs.Common.{arith}
use borrow.Author.Tests.{ltb-true, ltb-false, lt-ltb, eqb-true, eq-eqb}
use Rattle.lfa.specs.Lists.{member_of}
use Rattle.lfa.specs.Network.{Arc, Target, router}
use Rattle.lfa.specs.Distance.{unreachable, LeastCosts, towards}
use Rattle.lfa.specs.Walk.{Step, Walk, here, hop, Visits, takers, into, visits}
use Rattle.lfa.proofs.Laws.Test.{and_left, and_right, and_make, or_cases, or_left, or_right, not_make, not_gives, decide, same_test}
use Rattle.lfa.proofs.Laws.Target.{towards_router, route_bound}
use Rattle.lfa.proofs.Laws.Attached.{router_self}
use Rattle.lfa.proofs.Laws.Walk.{router_none_leaves, visit_equation, equation_visit}
use Rattle.lfa.proofs.Laws.Arrive.{Falls}
use Rattle.lfa.specs.Sound.{Within, Sound}
use Rattle.lfa.proofs.Laws.Bound.{falls}
use Rattle.lfa.proofs.Laws.Avoid.{TakesHop, takers_all, takers_only}

-- ---- the test

-- one hop more at the end of a walk
walk_on : {hops : List Arc} {d : ℕ → ℕ → ℕ} {to : Target} {x u v l k : ℕ} → Walk hops d to x u k → Step hops d to u v l → Walk hops d to x v (suc k)
walk_on here s = hop s here
walk_on (hop r w) s = hop r (walk_on w s)

module _ (n : ℕ) (hops : List Arc) (d : ℕ → ℕ → ℕ) (to : Target) (v : ℕ) where
  -- a walk that takes a hop to v visits it
  taken_visits : {x : ℕ} → TakesHop hops d to (into v) x → Visits hops d to x v
  unfolding into
  taken_visits r = let e : r.v ≡ v = eqb-true r.v v r.is_wanted in record { count = suc r.count; walk = rw e at (walk_on r.walk r.step) }

  -- a walk that visits v starts there, or takes a hop to v: the last one
  walk_takes : {x k : ℕ} → Walk hops d to x v k → (x ≡ v) ⊎ TakesHop hops d to (into v) x
  unfolding into
  walk_takes here = inl refl
  walk_takes (hop {x} {z} {l} s w) = inr (by (walk_takes w))
    where
      by : (z ≡ v) ⊎ TakesHop hops d to (into v) z → TakesHop hops d to (into v) x
      by (inl e) = record { u = x; v = z; l = l; count = 0; walk = here; step = s; is_wanted = eq-eqb z v e }
      by (inr r) = record { u = r.u; v = r.v; l = r.l; count = suc r.count; walk = hop s r.walk; step = r.step; is_wanted = r.is_wanted }

  -- Whether some walk from x visits v is decided by following the steps.
  pub visits_make : {m : ℕ → ℕ} → Within hops n → Falls hops d to m → (x : ℕ) → x < n → Visits hops d to x v → visits n hops d to v x ≡ true
  unfolding visits
  visits_make within falls x i r = by (walk_takes r.walk)
    where
      by : (x ≡ v) ⊎ TakesHop hops d to (into v) x → (eqb x v || member_of x (takers n hops d to (into v) n)) ≡ true
      by (inl e) = or_left (eqb x v) _ (eq-eqb x v e)
      by (inr t) = or_right (eqb x v) _ (takers_all n hops d to (into v) within falls i t)

  pub visits_gives : (x : ℕ) → visits n hops d to v x ≡ true → Visits hops d to x v
  unfolding visits
  visits_gives x e = by (or_cases (eqb x v) (member_of x (takers n hops d to (into v) n)) e)
    where
      by : (eqb x v ≡ true) ⊎ (member_of x (takers n hops d to (into v) n) ≡ true) → Visits hops d to x v
      by (inl t) = rw (eqb-true x v t) (record { count = 0; walk = here })
      by (inr t) = taken_visits (takers_only n hops d to (into v) x t)

-- x reaches the target, and no walk from x towards it visits router v
unfoldable pub misses : ℕ → List Arc → (ℕ → ℕ → ℕ) → Target → ℕ → ℕ → Bool
misses n hops d to v x = ltb (towards d to x) unreachable && not (visits n hops d to v x)

-- where the target is reached, this is that no walk visits v
pub misses_reached : (n : ℕ) (hops : List Arc) (d : ℕ → ℕ → ℕ) (to : Target) (v x : ℕ) → towards d to x < unreachable → misses n hops d to v x ≡ not (visits n hops d to v x)
unfolding misses
misses_reached n hops d to v x f = rw (lt-ltb _ _ f, misses)

-- ---- towards routers

module _ (n : ℕ) (hops : List Arc) (d : ℕ → ℕ → ℕ) (sound : Sound n hops) (dist : LeastCosts hops d) where
  -- From where a router can be reached, some walk towards it visits it: the walk that arrives.
  pub arrival_visits : (t x : ℕ) → towards d (router t) x < unreachable → Visits hops d (router t) x t
  arrival_visits t x f =
      let none = router_none_leaves d t sound.descends dist in
      let w = equation_visit hops d (router t) dist none {x = x} {u = t} (omega (arith, router_self hops d dist t, towards_router d t x (dist.most x t))) f in
      record { count = w.0; walk = w.1 }

  -- Every walk from x to r misses v exactly where D(x,r) is below D(x,v) + D(v,r), which is no more than unreachable: the sum is never below
  -- D(x,r), and some walk visits v exactly when the two are equal.
  pub misses_sum : (v r x : ℕ) → x < n → misses n hops d (router r) v x ≡ ltb (d x r) (min (d x v + d v r) unreachable)
  unfolding misses
  misses_sum v r x i = same_test _ _ there back
    where
      ex : towards d (router r) x ≡ d x r
      ex = towards_router d r x (dist.most x r)

      ev : towards d (router r) v ≡ d v r
      ev = towards_router d r v (dist.most v r)

      equal : visits n hops d (router r) v x ≡ true → towards d (router r) x < unreachable → d x v + d v r ≡ d x r
      equal t f = omega (arith, ex, ev, visit_equation hops d (router r) dist f (visits_gives n hops d (router r) v x t).walk)

      there : (ltb (towards d (router r) x) unreachable && not (visits n hops d (router r) v x)) ≡ true → ltb (d x r) (min (d x v + d v r) unreachable) ≡ true
      there e = by (decide (ltb (d x r) (min (d x v + d v r) unreachable)))
        where
          f : towards d (router r) x < unreachable
          f = ltb-true _ _ (and_left _ (not (visits n hops d (router r) v x)) e)

          some : min (d x v + d v r) unreachable ≤ d x r → Visits hops d (router r) x v
          some h =
              let path = dist.path x v (omega (arith, ex, f)) in
              let bound = route_bound hops d (router r) dist path in
              let w = equation_visit hops d (router r) dist (router_none_leaves d r sound.descends dist) {x = x} {u = v} (omega (arith, ex, ev, f, bound)) f in
              record { count = w.0; walk = w.1 }

          by : (ltb (d x r) (min (d x v + d v r) unreachable) ≡ true) ⊎ (ltb (d x r) (min (d x v + d v r) unreachable) ≡ false) → ltb (d x r) (min (d x v + d v r) unreachable) ≡ true
          by (inl t) = t
          by (inr t) =
              let g = falls sound d (router r) in
              absurd (not_gives (visits n hops d (router r) v x) (and_right (ltb (towards d (router r) x) unreachable) _ e) (visits_make n hops d (router r) v sound.within g.1 x i (some (ltb-false _ _ t))))

      back : ltb (d x r) (min (d x v + d v r) unreachable) ≡ true → (ltb (towards d (router r) x) unreachable && not (visits n hops d (router r) v x)) ≡ true
      back e =
          let h : d x r < min (d x v + d v r) unreachable = ltb-true _ _ e in
          let f : towards d (router r) x < unreachable = omega (arith, ex) in
          and_make _ _ (lt-ltb _ _ f) (not_make _ (λ t. let s = equal t f in omega arith))
