-- Crossing and avoiding a link: the tests that follow the steps hop by hop decide what they are to decide, and towards routers avoiding is
-- equal to the inequalities of distances that code computes.
-- Assumes nothing.
use Prim.Native.Nat.{ℕ, zero, suc, ◌+◌, ◌≤◌, ◌<◌}
use Rattle.std.specs.Prelude.{◌≡◌, refl, ◌⊎◌, Bool, true, false, ◌||◌, ltb}
use Rattle.std.proofs.Common.{inl, inr, arith, not-suc-le-zero, ltb-true, ltb-false, lt-ltb, eqb-true, eq-eqb}
use mathlib.Core.List.Memᴰ
use mathlib.Core.List.{List, Memᴰ}
use Rattle.std.proofs.lemmas.Bool.{not-true}
use Rattle.lfa.specs.Lists.{below, any_of, member_of}
use Rattle.lfa.specs.Network.{Arc, arc, Target, is_attached}
use Rattle.lfa.specs.Distance.{unreachable, LeastCosts, towards}
use Rattle.lfa.specs.Walk.{Step, Walk, here, hop, Crosses, Avoids, is_step, leads, takers, over, over_from, avoids, crosses}
use Rattle.lfa.specs.Space.{Protected}
use Rattle.lfa.proofs.Laws.Test.{and_left, and_right, and_make, or_cases, or_left, or_right, not_make, not_gives, decide}
use Rattle.lfa.proofs.Laws.List.{any_gives, any_make, select_gives, select_make, mem_below, member_gives, member_make}
use Rattle.lfa.proofs.Laws.Attached.{unattached_gives, unattached_make}
use Rattle.lfa.proofs.Laws.Walk.{crossing_equation, over_bound, NoneLeaves, equation_crossing}
use Rattle.lfa.proofs.Laws.Arrive.{Falls, walk_few}
use Rattle.lfa.specs.Sound.{Within, Named}

-- ---- steps

-- what the test of a step tells
step_facts : (d : ℕ → ℕ → ℕ) (to : Target) (x u v c l : ℕ) → is_step d to x (arc u v c l) ≡ true →
    (u ≡ x) × (is_attached to x ≡ false) × (c + towards d to v ≡ towards d to x) × (towards d to x < unreachable)
unfolding is_step
step_facts d to x u v c l e = search (eqb-true, ltb-true, not-true, and_left, and_right)

-- a step at x leaves x
pub step_leaves : (d : ℕ → ℕ → ℕ) (to : Target) (x u v c l : ℕ) → is_step d to x (arc u v c l) ≡ true → u ≡ x
step_leaves d to x u v c l e = (step_facts d to x u v c l e).0

pub step_gives : {hops : List Arc} {u v c l : ℕ} (d : ℕ → ℕ → ℕ) (to : Target) (x : ℕ) → Memᴰ (arc u v c l) hops → is_step d to x (arc u v c l) ≡ true →
    (u ≡ x) × Step hops d to u v l
step_gives {u} {v} {c} {l} d to x m e =
    let f = step_facts d to x u v c l e in
    (f.0, record { cost = c; joined = m; unattached = rw f.0 (unattached_gives to x f.1); tight = rw f.0 f.2; finite = rw f.0 f.3 })

pub step_make : {hops : List Arc} {x z l : ℕ} (d : ℕ → ℕ → ℕ) (to : Target) (s : Step hops d to x z l) → is_step d to x (arc x z s.cost l) ≡ true
unfolding is_step
step_make {x} d to s = rw (eq-eqb x x refl, unattached_make to x s.unattached, eq-eqb _ _ s.tight, lt-ltb _ _ s.finite, is_step)

-- ---- rounds

-- some walk from x takes a wanted hop
pub record TakesHop (hops : List Arc) (d : ℕ → ℕ → ℕ) (to : Target) (wanted : Arc → Bool) (x : ℕ) : Type 0 where
  pub u : ℕ
  pub v : ℕ
  pub l : ℕ
  pub count : ℕ
  pub walk : Walk hops d to x u count
  pub step : Step hops d to u v l
  pub is_wanted : wanted (arc u v step.cost l) ≡ true

module _ (n : ℕ) (hops : List Arc) (d : ℕ → ℕ → ℕ) (to : Target) (wanted : Arc → Bool) where
  abbrev known : ℕ → List ℕ
  known = takers n hops d to wanted

  -- A router found in k rounds has a walk that takes a wanted hop: its arc is a wanted step, or a step to a router found before.
  takers_give : (k x : ℕ) → Memᴰ x (takers n hops d to wanted k) → TakesHop hops d to wanted x
  unfolding takers leads
  takers_give zero x m = absurd (Memᴰ.not-nil m)
  takers_give (suc k) x m =
      let s = select_gives (λ x. any_of (leads d to wanted (known k) x) hops) (below n) m in
      let r = any_gives (leads d to wanted (known k) x) hops s.1 in
      go (takers_give k) r.0 r.1 r.2
    where
      by : {v l : ℕ} → ((x : ℕ) → Memᴰ x (known k) → TakesHop hops d to wanted x) → (s : Step hops d to x v l) →
          (wanted (arc x v s.cost l) ≡ true) ⊎ (member_of v (known k) ≡ true) → TakesHop hops d to wanted x
      by {v} {l} before s (inl t) = record { u = x; v = v; l = l; count = 0; walk = here; step = s; is_wanted = t }
      by {v} before s (inr t) =
          let r = before v (member_gives v (known k) t) in
          record { u = r.u; v = r.v; l = r.l; count = suc r.count; walk = hop s r.walk; step = r.step; is_wanted = r.is_wanted }

      at_x : {u v c l : ℕ} → ((x : ℕ) → Memᴰ x (known k) → TakesHop hops d to wanted x) → u ≡ x → Memᴰ (arc u v c l) hops →
          is_step d to x (arc u v c l) ≡ true → (wanted (arc u v c l) ≡ true) ⊎ (member_of v (known k) ≡ true) → TakesHop hops d to wanted x
      at_x {u} {v} {c} {l} before p m o t =
          let f = step_facts d to x u v c l o in
          by before (record { cost = c; joined = rw p at m; unattached = unattached_gives to x f.1; tight = f.2; finite = f.3 }) (rw p at t)

      go : ((x : ℕ) → Memᴰ x (known k) → TakesHop hops d to wanted x) → (a : Arc) → Memᴰ a hops → leads d to wanted (known k) x a ≡ true → TakesHop hops d to wanted x
      go before (arc u v c l) m e =
          let o : is_step d to x (arc u v c l) ≡ true = and_left (is_step d to x (arc u v c l)) (wanted (arc u v c l) || member_of v (known k)) e in
          at_x before (step_gives d to x m o).0 m o (or_cases (wanted (arc u v c l)) (member_of v (known k)) (and_right (is_step d to x (arc u v c l)) (wanted (arc u v c l) || member_of v (known k)) e))

  found : {x v l : ℕ} (k : ℕ) → Within hops n → (s : Step hops d to x v l) → (wanted (arc x v s.cost l) || member_of v (known k)) ≡ true → Memᴰ x (takers n hops d to wanted (suc k))
  unfolding takers leads
  found {x} k within s e =
      select_make (λ x. any_of (leads d to wanted (known k) x) hops) (mem_below n x (within.from s.joined))
      (any_make (leads d to wanted (known k) x) s.joined (and_make _ _ (step_make d to s) e))

  -- A walk that takes a wanted hop after fewer than k others is found in k rounds: by induction on the walk.
  takers_have : {x u v l j : ℕ} (k : ℕ) → Within hops n → Walk hops d to x u j → (s : Step hops d to u v l) → wanted (arc u v s.cost l) ≡ true → j < k → Memᴰ x (takers n hops d to wanted k)
  takers_have zero within w s t h = absurd (not-suc-le-zero h)
  takers_have {v} {l} (suc k) within (here {x}) s t h = found k within s (or_left (wanted (arc x v s.cost l)) (member_of v (known k)) t)
  takers_have (suc k) within (hop {x} {z} {l = i} r w) s t h =
      found k within r (or_right (wanted (arc x z r.cost i)) (member_of z (known k)) (member_make (takers_have k within w s t (omega arith))))

  -- N rounds find every such router, since a walk has fewer than N hops
  pub takers_all : {m : ℕ → ℕ} {x : ℕ} → Within hops n → Falls hops d to m → x < n → TakesHop hops d to wanted x → member_of x (takers n hops d to wanted n) ≡ true
  takers_all {m} within falls i r = member_make (takers_have n within r.walk r.step r.is_wanted (walk_few hops d to n m within falls i r.walk))

  pub takers_only : (x : ℕ) → member_of x (takers n hops d to wanted n) ≡ true → TakesHop hops d to wanted x
  takers_only x e = takers_give n x (member_gives x (takers n hops d to wanted n) e)

-- ---- crossing

-- Whether some walk from x crosses link l from u to v is decided by following the steps.
pub crosses_gives : (n : ℕ) (hops : List Arc) (d : ℕ → ℕ → ℕ) (to : Target) (l u v x : ℕ) → crosses n hops d to l u v x ≡ true → Crosses hops d to x l u v
unfolding crosses over_from
crosses_gives n hops d to l u v x e = go (takers_only n hops d to (over_from l u v) x e)
  where
    go : TakesHop hops d to (over_from l u v) x → Crosses hops d to x l u v
    go r =
        let f : (r.l ≡ l) × (r.u ≡ u) × (r.v ≡ v) = names r.u r.v r.step.cost r.l r.is_wanted in
        record { count = r.count; walk = rw f.1 at r.walk; step = rw (f.0, f.1, f.2) at r.step }
      where
        names : (x z c k : ℕ) → over_from l u v (arc x z c k) ≡ true → (k ≡ l) × (x ≡ u) × (z ≡ v)
        names x z c k t = search (eqb-true, and_left, and_right)

pub crosses_make : (n : ℕ) (hops : List Arc) (d : ℕ → ℕ → ℕ) (to : Target) (m : ℕ → ℕ) → Within hops n → Falls hops d to m → {l u v x : ℕ} → x < n → Crosses hops d to x l u v → crosses n hops d to l u v x ≡ true
unfolding crosses over_from
crosses_make n hops d to m within falls {l} {u} {v} {x} i r =
    takers_all n hops d to (over_from l u v) within falls i
    (record { u = u; v = v; l = l; count = r.count; walk = r.walk; step = r.step; is_wanted = rw (eq-eqb l l refl, eq-eqb u u refl, eq-eqb v v refl, over_from) })

-- ---- avoiding

-- The test of avoiding decides avoiding: the link is crossed, in either direction, exactly when N rounds find a hop over it.
pub avoids_gives : (n : ℕ) (hops : List Arc) (d : ℕ → ℕ → ℕ) (to : Target) (m : ℕ → ℕ) → Within hops n → Falls hops d to m → (l x : ℕ) → x < n → avoids n hops d to l x ≡ true → Avoids hops d to l x
unfolding avoids over
avoids_gives n hops d to m within falls l x i e = record {
  reachable = search (ltb-true, and_left);
  none = λ u v r.
      not_gives (member_of x (takers n hops d to (over l) n)) (and_right (ltb (towards d to x) unreachable) _ e)
      (takers_all n hops d to (over l) within falls i (record { u = u; v = v; l = l; count = r.count; walk = r.walk; step = r.step; is_wanted = eq-eqb l l refl }));
}

pub avoids_make : (n : ℕ) (hops : List Arc) (d : ℕ → ℕ → ℕ) (to : Target) (l x : ℕ) → Avoids hops d to l x → avoids n hops d to l x ≡ true
unfolding avoids over
avoids_make n hops d to l x a = and_make _ _ (lt-ltb _ _ a.reachable) (not_make _ (λ e. go (takers_only n hops d to (over l) x e)))
  where
    is_over : (u v c k : ℕ) → over l (arc u v c k) ≡ true → k ≡ l
    is_over u v c k t = eqb-true k l t

    go : TakesHop hops d to (over l) x → ⊥
    go r = a.none r.u r.v (record { count = r.count; walk = r.walk; step = rw (is_over r.u r.v r.step.cost r.l r.is_wanted) at r.step })

-- ---- the inequalities

-- D(x,t) is finite, and below the cost over the link in either direction
pub record Below (d : ℕ → ℕ → ℕ) (q : Protected) (to : Target) (x : ℕ) : Type 0 where
  pub finite : towards d to x < unreachable
  pub out : towards d to x < d x q.near + q.out + towards d to q.far
  pub back : towards d to x < d x q.far + q.back + towards d to q.near

module _ (hops : List Arc) (d : ℕ → ℕ → ℕ) (q : Protected) (dist : LeastCosts hops d) (named : Named hops q) where
  -- Where no tight hop leaves an attached router, so towards every router, x avoids exactly where both inequalities are strict: the sum
  -- over an arc is never below D(x,t), and some walk crosses the arc exactly when the two are equal. Towards any target strict inequalities
  -- are enough, but a walk that ends at an attached router may miss the link without them.
  pub avoids_below : (to : Target) → NoneLeaves hops d to → (x : ℕ) → Avoids hops d to q.number x → Below d q to x
  avoids_below to none_leaves x a = record { finite = a.reachable; out = strict named.outward; back = strict named.backward }
    where
      strict : {u v c : ℕ} → Memᴰ (arc u v c q.number) hops → towards d to x < d x u + c + towards d to v
      strict {u} {v} {c} m = go (decide (ltb (towards d to x) (d x u + c + towards d to v)))
        where
          bound : towards d to x ≤ d x u + c + towards d to v
          bound = over_bound hops d to dist x m

          go : (ltb (towards d to x) (d x u + c + towards d to v) ≡ true) ⊎ (ltb (towards d to x) (d x u + c + towards d to v) ≡ false) → towards d to x < d x u + c + towards d to v
          go (inl e) = ltb-true _ _ e
          go (inr e) = absurd (a.none u v (equation_crossing hops d to dist none_leaves m (omega (arith, ltb-false, bound)) a.reachable))

  pub below_avoids : (to : Target) (x : ℕ) → Below d q to x → Avoids hops d to q.number x
  below_avoids to x b = record { reachable = b.finite; none = λ u v r. cross u v r (named.only r.step.joined) }
    where
      cross : (u v : ℕ) (r : Crosses hops d to x q.number u v) → ((u ≡ q.near) × (v ≡ q.far) × (r.step.cost ≡ q.out)) ⊎ ((u ≡ q.far) × (v ≡ q.near) × (r.step.cost ≡ q.back)) → ⊥
      cross u v r (inl k) = let (e, f) = crossing_equation hops d to dist r in omega (arith, b.out, rw (k.0, k.1, k.2) at e)
      cross u v r (inr k) = let (e, f) = crossing_equation hops d to dist r in omega (arith, b.back, rw (k.0, k.1, k.2) at e)
