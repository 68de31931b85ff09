-- A pair that serves the far router serves every prefix whose traffic from S may cross the link, and to serve is to have every
-- walk of both legs arrive and miss the link.
-- Assumes nothing.
use Rattle.std.specs.Prelude.{ℕ, ◌+◌, ◌≤◌, ◌<◌, ◌≡◌, ◌⊎◌, List}
use Rattle.std.proofs.Common.{inl, inr, arith}
use Rattle.lfa.specs.Network.{Arc, Target, router, Attached}
use Rattle.lfa.specs.Distance.{unreachable, stay, LeastCosts, towards}
use Rattle.lfa.specs.Walk.{Step, Delivers, here, hop, Crosses, Avoids, Arrives}
use Rattle.lfa.specs.Space.{Protected}
use Rattle.lfa.specs.Repair.{Serves, MayCross}
use Rattle.lfa.proofs.Laws.Attached.{router_attached, router_self, attached_avoids}
use Rattle.lfa.proofs.Laws.Walk.{crossing_equation, router_none_leaves, equation_crossing}
use Rattle.lfa.proofs.Laws.Arrive.{never_twice}
use Rattle.lfa.specs.Sound.{Named, Sound}
use Rattle.lfa.proofs.Laws.Target.{towards_router, hop_bound, route_bound}
use Rattle.lfa.proofs.Laws.Bound.{falls, Capped, towards_small, distance_small, towards_arrives}

module _ (n : ℕ) (hops : List Arc) (d : ℕ → ℕ → ℕ) (q : Protected) (sound : Sound n hops) (dist : LeastCosts hops d) (named : Named hops q) where
  -- What avoids to E avoids to every prefix whose traffic may cross the link. D(S,p) is the cost S to E plus D(E,p). Were the link
  -- crossed from S to E on the way from y to p, the part up to E would be a least-cost walk from y to E over the link; from E to S,
  -- a walk from S over the link and back would visit S twice.
  pub far_avoids : (to : Target) → Capped to → MayCross hops d q to → (y : ℕ) → y < n →
      Avoids hops d (router q.far) q.number y → Avoids hops d to q.number y
  far_avoids to capped may y i a = record { reachable = reach; none = λ u v r. cross u v r (named.only r.step.joined) }
    where
      -- D(y,E) is real
      e : towards d (router q.far) y ≡ d y q.far
      e = towards_router d q.far y (dist.most y q.far)

      far : d y q.far < unreachable
      far = omega (arith, e, a.reachable)

      -- D(y,p) is at most D(y,E) + D(E,p)
      bound : towards d to y ≤ d y q.far + towards d to q.far
      bound = route_bound hops d to dist (dist.path y q.far far)

      -- D(S,p) is the cost S to E plus D(E,p)
      outward : may.step.cost + towards d to q.far ≡ towards d to q.near
      outward = may.step.tight

      reach : towards d to y < unreachable
      reach = omega (arith, bound, outward, may.step.finite, distance_small n hops d sound dist y q.far i far, towards_small n hops d sound dist to capped q.near (sound.within.from named.outward) may.step.finite)

      cross : (u v : ℕ) (r : Crosses hops d to y q.number u v) → ((u ≡ q.near) × (v ≡ q.far) × (r.step.cost ≡ q.out)) ⊎ ((u ≡ q.far) × (v ≡ q.near) × (r.step.cost ≡ q.back)) → ⊥
      -- from S to E: then some walk from y to E crosses it too
      cross u v r (inl k) =
          let (e₁, f) = crossing_equation hops d to dist r in
          let eq : d y q.near + q.out + towards d to q.far ≡ towards d to y = rw (k.0, k.1, k.2) at e₁ in
          let h' : ℕ → ℕ = towards d (router q.far) in
          let self : h' q.far ≡ d q.far q.far = towards_router d q.far q.far (dist.most q.far q.far) in
          let none : d q.far q.far ≤ 0 = dist.least stay in
          let high : h' y ≤ d y q.near + h' q.near = route_bound hops d (router q.far) dist (dist.path y q.near (omega arith)) in
          let last : h' q.near ≤ q.out + h' q.far = hop_bound hops d (router q.far) dist named.outward in
          a.none q.near q.far (equation_crossing hops d (router q.far) dist (router_none_leaves d q.far sound.descends dist) named.outward (omega (arith, e, bound)) a.reachable)
      -- from E to S: then some walk leads from S to E and back
      cross u v r (inr k) =
          let back : Step hops d to q.far q.near q.number = rw (k.0, k.1) at r.step in
          let g = falls sound d to in
          never_twice hops d to n g.0 sound.within g.1 (hop may.step (hop back here))

  -- a pair that serves the far router serves every prefix whose traffic may cross the link
  pub far_serves : (to : Target) → Capped to → MayCross hops d q to → (m y : ℕ) → y < n → Serves hops d q (router q.far) m y → Serves hops d q to m y
  far_serves to capped may m y i s = record { tunnel = s.tunnel; onward = far_avoids to capped may y i s.onward }

  -- all walks of a serving pair arrive in fewer than n hops, on both legs
  pub serves_arrives : (to : Target) (m y : ℕ) → m < n → y < n → Serves hops d q to m y → Arrives hops d (router y) n m × Arrives hops d to n y
  serves_arrives to m y hm hy s = (towards_arrives n hops d sound dist (router y) m hm s.tunnel.reachable, towards_arrives n hops d sound dist to y hy s.onward.reachable)

  -- The target is reachable from x exactly when every walk from x arrives in fewer than N hops: the walk of no hops can go on.
  pub arrives_reachable : (to : Target) (x : ℕ) → Arrives hops d to n x → towards d to x < unreachable
  arrives_reachable to x a = go (a.goes x 0 here)
    where
      go : Delivers d to x ⊎ ((z : ℕ) × (l : ℕ) × Step hops d to x z l) → towards d to x < unreachable
      go (inl t) = t.finite
      go (inr (z, l, s)) = s.finite

  -- An attached router serves as its own endpoint: it is the end of both legs.
  pub attached_serves : (to : Target) (m : ℕ) → Attached to m → towards d to m < unreachable → Serves hops d q to m m
  attached_serves to m a f =
      record { tunnel = attached_avoids q.number (router_attached m) (omega (arith, router_self hops d dist m)); onward = attached_avoids q.number a f }
