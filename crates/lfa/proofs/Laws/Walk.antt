-- Laws of walks, over any distances d that are the least costs of paths: how d is computed does not matter here.
-- Assumes nothing.
use Rattle.std.specs.Prelude.{ℕ, suc, ◌+◌, ◌*◌, ◌≤◌, ◌<◌, ◌≡◌, ◌⊎◌, true, false, ltb}
use Rattle.std.proofs.Common.{sym, inl, inr, arith, ltb-true, ltb-false}
use mathlib.Core.List.{List, Memᴰ}
use Rattle.lfa.proofs.Laws.Test.{decide}
use Rattle.lfa.specs.Sound.{Descends}
use Rattle.lfa.specs.Network.{Arc, arc, at, Target, router, Attached}
use Rattle.lfa.specs.Distance.{unreachable, RouterPath, stay, via, LeastCosts, towards}
use Rattle.lfa.specs.Walk.{Step, Delivers, Walk, here, hop, Crosses}
use Rattle.lfa.proofs.Laws.Target.{towards_most, towards_least, towards_over, towards_router, hop_bound, route_bound}
use Rattle.lfa.proofs.Laws.Attached.{attached_cases, router_only, router_self}

-- the number that falls at each step of a walk: twice the distance to the target, and the height
abbrev pub measure : (height : ℕ → ℕ) → (ℕ → ℕ → ℕ) → Target → ℕ → ℕ
measure height d to x = 2 * towards d to x + height x

-- along a path the height rises by at most twice the path's cost
path_height : {hops : List Arc} {height : ℕ → ℕ} {x u k : ℕ} → Descends hops height → RouterPath hops x u k → height u ≤ 2 * k + height x
path_height g stay = omega arith
path_height g (via m r) = omega (arith, g.hop m, path_height g r)

-- No hop from a router is tight towards this router: the hop and a path back would cost nothing, and lead down in a circle. So a walk
-- towards a router ends there.
pub router_ends : {hops : List Arc} {height : ℕ → ℕ} {d : ℕ → ℕ → ℕ} {t z c l : ℕ} → Descends hops height → LeastCosts hops d → Memᴰ (arc t z c l) hops →
    c + towards d (router t) z ≡ towards d (router t) t → ⊥
router_ends {hops} {height} {d} {t} {z} g dist m e =
    let self = router_self hops d dist t in
    let there = towards_router d t z (dist.most z t) in
    omega (arith, g.hop m, path_height g (dist.path z t (omega arith)))

module _ {hops : List Arc} {d : ℕ → ℕ → ℕ} {to : Target} where
  -- A step lowers it: the distance falls by the cost of the hop, and the height rises by less than twice that.
  pub step_lowers : {height : ℕ → ℕ} {x z l : ℕ} → Descends hops height → Step hops d to x z l → measure height d to z < measure height d to x
  step_lowers g s = omega (arith, g.hop s.joined, s.tight)

  -- the cost of a walk is what the distance falls by
  pub walk_cost : {x u n : ℕ} → Walk hops d to x u n → (k : ℕ) × RouterPath hops x u k × (towards d to x ≡ k + towards d to u)
  walk_cost here = (0, stay, omega arith)
  walk_cost (hop s w) = let r = walk_cost w in (s.cost + r.0, via s.joined r.1, omega (arith, s.tight, r.2))

  -- a walk keeps to finite distances
  pub walk_finite : {x u n : ℕ} → Walk hops d to x u n → towards d to x < unreachable → towards d to u < unreachable
  walk_finite w f = omega (arith, (walk_cost w).2)

  -- and starts from one
  pub walk_starts : {x u n : ℕ} → Walk hops d to x u n → towards d to u < unreachable → towards d to x < unreachable
  walk_starts here f = f
  walk_starts (hop s w) f = s.finite

module _ (hops : List Arc) (d : ℕ → ℕ → ℕ) (to : Target) (dist : LeastCosts hops d) where
  -- Where some walk from x crosses the arc from u to v, D(x,u) + cost + D(v,t) equals finite D(x,t): a walk's cost is what the distance
  -- falls by, so that the walk up to u costs D(x,u), and the arc is tight. Towards a prefix the equation does not tell that a walk crosses:
  -- an attached router on the way ends it.
  pub crossing_equation : {x l u v : ℕ} (r : Crosses hops d to x l u v) → (d x u + r.step.cost + towards d to v ≡ towards d to x) × (towards d to x < unreachable)
  crossing_equation {x} {u} r =
      let w = walk_cost r.walk in
      let f : towards d to x < unreachable = walk_starts r.walk r.step.finite in
      let low : d x u ≤ w.0 = dist.least w.1 in
      let high : towards d to x ≤ d x u + towards d to u = route_bound hops d to dist (dist.path x u (omega (arith, w.2))) in
      (omega (arith, w.2, r.step.tight), f)

  -- D(x,t) is at most D(x,u) + cost + D(v,t) over any arc from u to v
  pub over_bound : {u v c l : ℕ} (x : ℕ) → Memᴰ (arc u v c l) hops → towards d to x ≤ d x u + c + towards d to v
  over_bound {u} {v} {c} x m = go (decide (ltb (d x u) unreachable))
    where
      go : (ltb (d x u) unreachable ≡ true) ⊎ (ltb (d x u) unreachable ≡ false) → towards d to x ≤ d x u + c + towards d to v
      go (inl e) = omega (arith, hop_bound hops d to dist m, route_bound hops d to dist (dist.path x u (ltb-true _ _ e)))
      go (inr e) = omega (arith, ltb-false, towards_most d to x)

  -- From every finite distance a path of least cost leads on: x is attached at D(x,t), or some hop from x is tight.
  pub tight_hop : (x : ℕ) → towards d to x < unreachable →
      Memᴰ (at x (towards d to x)) to ⊎ ((z : ℕ) × (c : ℕ) × (l : ℕ) × Memᴰ (arc x z c l) hops × (c + towards d to z ≡ towards d to x))
  tight_hop x f = let r = towards_over d to x f in go r.1 r.2 (dist.path x r.0 (omega (arith, r.3))) r.3
    where
      go : {a k : ℕ} (c : ℕ) → Memᴰ (at a c) to → RouterPath hops x a k → k + c ≡ towards d to x →
          Memᴰ (at x (towards d to x)) to ⊎ ((z : ℕ) × (c : ℕ) × (l : ℕ) × Memᴰ (arc x z c l) hops × (c + towards d to z ≡ towards d to x))
      go c m stay e = let same : c ≡ towards d to x = omega (arith, e) in inl (rw same at m)
      go c m (via {z} {c = b} {l} j r) e = inr (z, b, l, j, omega (arith, hop_bound hops d to dist j, towards_least d z m, dist.least r))

  -- From every finite distance a walk can deliver or step: an attached router delivers, and from another some hop is tight.
  pub onward : (x : ℕ) → towards d to x < unreachable → Delivers d to x ⊎ ((z : ℕ) × (l : ℕ) × Step hops d to x z l)
  onward x f = by (attached_cases to x) (tight_hop x f)
    where
      by : Attached to x ⊎ (Attached to x → ⊥) → Memᴰ (at x (towards d to x)) to ⊎ ((z : ℕ) × (c : ℕ) × (l : ℕ) × Memᴰ (arc x z c l) hops × (c + towards d to z ≡ towards d to x)) →
          Delivers d to x ⊎ ((z : ℕ) × (l : ℕ) × Step hops d to x z l)
      by (inl a) o = inl (record { attached = a; finite = f })
      by (inr away) (inl m) = absurd (away (record { own = towards d to x; listed = m }))
      by (inr away) (inr (z, c, l, m, e)) = inr (z, l, record { cost = c; joined = m; unattached = away; tight = e; finite = f })

  -- Where some walk from x visits u, D(x,u) + D(u,t) equals finite D(x,t): the walk up to u costs no less than D(x,u).
  pub visit_equation : {x u k : ℕ} → towards d to x < unreachable → Walk hops d to x u k → d x u + towards d to u ≡ towards d to x
  visit_equation {x} {u} f w =
      let r = walk_cost w in
      let low : d x u ≤ r.0 = dist.least r.1 in
      let high = route_bound hops d to dist (dist.path x u (omega (arith, r.2))) in
      omega (arith, r.2)

-- ---- where no tight hop leaves an attached router, so towards a router, the equations tell walks

pub record NoneLeaves (hops : List Arc) (d : ℕ → ℕ → ℕ) (to : Target) : Type 0 where
  pub none : {x z c l : ℕ} → Memᴰ (arc x z c l) hops → c + towards d to z ≡ towards d to x → Attached to x → ⊥

pub router_none_leaves : {hops : List Arc} {height : ℕ → ℕ} (d : ℕ → ℕ → ℕ) (t : ℕ) → Descends hops height → LeastCosts hops d → NoneLeaves hops d (router t)
router_none_leaves d t descends dist = record { none = λ m e a. router_ends descends dist (rw (router_only a) at m) (rw (router_only a) at e) }

module _ (hops : List Arc) (d : ℕ → ℕ → ℕ) (to : Target) (dist : LeastCosts hops d) (none_leaves : NoneLeaves hops d to) where
  -- every tight hop is a step, as it was before Point 4
  pub tight_step : {x z c l : ℕ} → Memᴰ (arc x z c l) hops → c + towards d to z ≡ towards d to x → towards d to x < unreachable → Step hops d to x z l
  tight_step {c} m e f = record { cost = c; joined = m; unattached = none_leaves.none m e; tight = e; finite = f }

  -- a path along which the distance falls by its whole cost is a walk
  pub tight_walk : {x u k : ℕ} → RouterPath hops x u k → towards d to x ≡ k + towards d to u → towards d to x < unreachable → (n : ℕ) × Walk hops d to x u n
  tight_walk stay e f = (0, here)
  tight_walk (via m r) e f =
      let b = hop_bound hops d to dist m in
      let b' = route_bound hops d to dist r in
      let w = tight_walk r (omega arith) (omega arith) in
      (suc w.0, hop (tight_step m (omega arith) f) w.1)

  -- The other way of the crossing equation: a path of cost D(x,u) along which the distance falls by its whole cost is a walk, and the arc
  -- is a step after it.
  pub equation_crossing : {x l u v c : ℕ} → Memᴰ (arc u v c l) hops → d x u + c + towards d to v ≡ towards d to x → towards d to x < unreachable → Crosses hops d to x l u v
  equation_crossing {x} {u} m e f =
      let r = dist.path x u (omega arith) in
      let b = hop_bound hops d to dist m in
      let b' = route_bound hops d to dist r in
      let w = tight_walk r (omega arith) f in
      record { count = w.0; walk = w.1; step = tight_step m (omega arith) (omega arith) }

  -- and of the visit equation
  pub equation_visit : {x u : ℕ} → d x u + towards d to u ≡ towards d to x → towards d to x < unreachable → (k : ℕ) × Walk hops d to x u k
  equation_visit {x} {u} e f = tight_walk (dist.path x u (omega arith)) (sym e) f
