-- Where no tight hop leaves an attached router, walks are what they were before Point 4; and where that is so: towards routers, and towards
-- prefixes whose attachments cost the same.
-- Assumes nothing.
use Rattle.std.specs.Prelude.{ℕ, ◌+◌, ◌<◌, ◌≡◌, refl, ◌⊎◌, ◌↔◌, true, false, ltb}
use Rattle.std.proofs.Common.{inl, inr, arith, ltb-true, ltb-false}
use mathlib.Core.List.Memᴰ
use mathlib.Core.List.{List, Memᴰ}
use Rattle.lfa.specs.Network.{Arc, arc, at, Target, Attached, router}
use Rattle.lfa.specs.Distance.{unreachable, LeastCosts, towards}
use Rattle.lfa.specs.Walk.{Step, Delivers, WalkBy, here, hop, CrossesBy, ArrivesBy, Crosses, Arrives}
use Rattle.lfa.specs.Route.{Move, deliver, go, HasMoveBy, HasMove, AreOptionsBy, AreOptions}
use Rattle.lfa.specs.Former.{FormerStep, FormerDelivers, OwnCostsBelow}
use Rattle.lfa.proofs.Laws.Test.{decide}
use Rattle.lfa.proofs.Laws.Target.{towards_over}
use Rattle.lfa.proofs.Laws.Attached.{attached_near, router_self}
use Rattle.lfa.proofs.Laws.Walk.{router_ends, tight_hop, NoneLeaves, tight_step}
use Rattle.lfa.specs.Sound.{Descends, level}
use Rattle.lfa.proofs.Laws.Bound.{Capped}

-- ---- walks by steps that are the same

module _ {steps others : ℕ → ℕ → ℕ → Type 0} (same : (x z l : ℕ) → steps x z l → others x z l) where
  pub other_walk : {x u k : ℕ} → WalkBy steps x u k → WalkBy others x u k
  other_walk here = here
  other_walk (hop {x} {z} {l} s w) = hop (same x z l s) (other_walk w)

  other_crosses : {x l u v : ℕ} → CrossesBy steps x l u v → CrossesBy others x l u v
  other_crosses {l} {u} {v} r = record { count = r.count; walk = other_walk r.walk; step = same u v l r.step }

module _ {steps others : ℕ → ℕ → ℕ → Type 0} (same : (x z l : ℕ) → steps x z l ↔ others x z l) where
  same_crosses : {x l u v : ℕ} → CrossesBy steps x l u v ↔ CrossesBy others x l u v
  same_crosses = (other_crosses (λ x z l. (same x z l).0), other_crosses (λ x z l. (same x z l).1))

-- every walk by the one arrives where every walk by the other does
other_arrives : {steps others : ℕ → ℕ → ℕ → Type 0} {ends other-ends : ℕ → Type 0} → ((x z l : ℕ) → steps x z l ↔ others x z l) →
    ((x : ℕ) → ends x → other-ends x) → (n x : ℕ) → ArrivesBy steps ends n x → ArrivesBy others other-ends n x
other_arrives {steps} {others} {ends} {other-ends} same same_ends n x a = record {
  goes = λ u k w. there u (a.goes u k (other_walk (λ x z l. (same x z l).1) w));
  few = λ u k w. a.few u k (other_walk (λ x z l. (same x z l).1) w);
}
  where
    there : (u : ℕ) → ends u ⊎ ((z : ℕ) × (l : ℕ) × steps u z l) → other-ends u ⊎ ((z : ℕ) × (l : ℕ) × others u z l)
    there u (inl t) = inl (same_ends u t)
    there u (inr (z, l, s)) = inr (z, l, (same u z l).0 s)

same_arrives : {steps others : ℕ → ℕ → ℕ → Type 0} {ends other-ends : ℕ → Type 0} → ((x z l : ℕ) → steps x z l ↔ others x z l) →
    ((x : ℕ) → ends x ↔ other-ends x) → (n x : ℕ) → ArrivesBy steps ends n x ↔ ArrivesBy others other-ends n x
same_arrives same same_ends n x = (
  other_arrives same (λ u. (same_ends u).0) n x,
  other_arrives (λ x z l. ((same x z l).1, (same x z l).0)) (λ u. (same_ends u).1) n x,
)

-- a step of today was one then, so that a walk of today is the start of one of then
pub step_was : {hops : List Arc} {d : ℕ → ℕ → ℕ} {to : Target} (x z l : ℕ) → Step hops d to x z l → FormerStep hops d to x z l
step_was x z l s = record { cost = s.cost; joined = s.joined; tight = s.tight; finite = s.finite }

pub crossed : {hops : List Arc} {d : ℕ → ℕ → ℕ} {to : Target} {x l u v : ℕ} → Crosses hops d to x l u v → CrossesBy (FormerStep hops d to) x l u v
crossed = other_crosses step_was

-- what arrived can reach the target
pub was_reachable : {hops : List Arc} {d : ℕ → ℕ → ℕ} {to : Target} {n x : ℕ} → ArrivesBy (FormerStep hops d to) (FormerDelivers d to) n x → towards d to x < unreachable
was_reachable {hops} {d} {to} {n} {x} a = by (a.goes x 0 here)
  where
    by : FormerDelivers d to x ⊎ ((z : ℕ) × (l : ℕ) × FormerStep hops d to x z l) → towards d to x < unreachable
    by (inl t) = t.finite
    by (inr (z, l, s)) = s.finite

module _ (hops : List Arc) (d : ℕ → ℕ → ℕ) (dist : LeastCosts hops d) (to : Target) (below : OwnCostsBelow hops d to) where
  -- No tight hop leaves an attached router: D(x,p) is at most its own cost.
  pub none_leaves : NoneLeaves hops d to
  none_leaves = record { none = λ {x} {z} {c} {l} m e a. omega (arith, below x a.own z c l a.listed m, attached_near hops d dist a) }

  pub same_steps : (x z l : ℕ) → Step hops d to x z l ↔ FormerStep hops d to x z l
  same_steps x z l = (
    step_was x z l,
    λ s. tight_step hops d to dist none_leaves s.joined s.tight s.finite,
  )

  -- So an attached router's own cost is D(x,p), since else a path of least cost would start with a tight hop.
  pub same_deliveries : (x : ℕ) → Delivers d to x ↔ FormerDelivers d to x
  same_deliveries x = (
    λ t. by t.attached t.finite (tight_hop hops d to dist x t.finite),
    λ t. record { attached = record { own = t.own; listed = t.attached }; finite = t.finite },
  )
    where
      by : Attached to x → towards d to x < unreachable → Memᴰ (at x (towards d to x)) to ⊎ ((z : ℕ) × (c : ℕ) × (l : ℕ) × Memᴰ (arc x z c l) hops × (c + towards d to z ≡ towards d to x)) →
          FormerDelivers d to x
      by a f (inl m) = record { own = towards d to x; attached = m; tight = refl; finite = f }
      by a f (inr (z, c, l, m, e)) = absurd (none_leaves.none m e a)

  -- the options at a router
  pub same_options : (x : ℕ) (moves : List Move) → AreOptions hops d to x moves → AreOptionsBy (FormerStep hops d to) (FormerDelivers d to) x moves
  same_options x moves o = record {
    each = λ m i. there m (o.each m i);
    every = λ m h. o.every m (back m h);
    nexts = o.nexts;
    ascending = o.ascending;
    delivery_first = o.delivery_first;
  }
    where
      there : (m : Move) → HasMove hops d to x m → HasMoveBy (FormerStep hops d to) (FormerDelivers d to) x m
      there deliver t = (same_deliveries x).0 t
      there (go z) (l, s) = (l, (same_steps x z l).0 s)

      back : (m : Move) → HasMoveBy (FormerStep hops d to) (FormerDelivers d to) x m → HasMove hops d to x m
      back deliver t = (same_deliveries x).1 t
      back (go z) (l, s) = (l, (same_steps x z l).1 s)

  pub same_crossing : {x l u v : ℕ} → Crosses hops d to x l u v ↔ CrossesBy (FormerStep hops d to) x l u v
  same_crossing = same_crosses same_steps

  pub same_arrival : (n x : ℕ) → Arrives hops d to n x ↔ ArrivesBy (FormerStep hops d to) (FormerDelivers d to) n x
  same_arrival = same_arrives same_steps same_deliveries

-- ---- where it is so

-- A router's own cost, 0, is below the cost over any neighbour: else the hop would be tight towards the router that it leaves.
pub router_below : {hops : List Arc} {height : ℕ → ℕ} (d : ℕ → ℕ → ℕ) → Descends hops height → LeastCosts hops d → (t : ℕ) → OwnCostsBelow hops d (router t)
unfolding router
router_below {hops} d descends dist t x own z c l a m = by (decide (ltb own (c + towards d (router t) z)))
  where
    is : (x ≡ t) × (own ≡ 0)
    is = let e : at x own ≡ at t 0 = Memᴰ.eq_of_singleton a in ((cc), (cc))

    by : (ltb own (c + towards d (router t) z) ≡ true) ⊎ (ltb own (c + towards d (router t) z) ≡ false) → own < c + towards d (router t) z
    by (inl e) = ltb-true _ _ e
    by (inr e) = absurd (router_ends descends dist (rw is.0 at m) (omega (arith, ltb-false, is.1, router_self hops d dist t)))

-- Where all attachments cost the same, each own cost is below that over any neighbour: no D(z,p) is less, and the hop costs something.
pub one_cost_below : {hops : List Arc} (d : ℕ → ℕ → ℕ) (to : Target) → Descends hops level → Capped to → (cost : ℕ) → ((x own : ℕ) → Memᴰ (at x own) to → own ≡ cost) → OwnCostsBelow hops d to
one_cost_below d to descends capped cost same x own z c l a m = by (decide (ltb (towards d to z) unreachable))
  where
    by : (ltb (towards d to z) unreachable ≡ true) ⊎ (ltb (towards d to z) unreachable ≡ false) → own < c + towards d to z
    by (inl e) =
        let r = towards_over d to z (ltb-true _ _ e) in
        omega (arith, descends.hop m, same x own a, same r.0 r.1 r.2, r.3)
    by (inr e) = omega (arith, capped.own a, ltb-false)
