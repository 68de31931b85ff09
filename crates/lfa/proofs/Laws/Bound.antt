-- A real distance is at most 4,194,240, so that sums of two stay finite, and a router or prefix is unreachable exactly where
-- no path leads there.
-- Assumes nothing.
use Rattle.std.specs.Prelude.{ℕ, ◌+◌, ◌*◌, ◌≤◌, ◌<◌}
use mathlib.Core.List.{List, Memᴰ}
use Rattle.std.proofs.Common.{arith}
use Rattle.lfa.specs.Network.{Arc, at, Target, router}
use Rattle.lfa.specs.Distance.{unreachable, RouterPath, stay, via, LeastCosts, towards}
use Rattle.lfa.specs.Walk.{Walk, here, hop, Arrives}
use Rattle.lfa.proofs.Laws.Walk.{measure, router_none_leaves, tight_walk}
use Rattle.lfa.specs.Sound.{Sound}
use Rattle.lfa.proofs.Laws.Arrive.{Falls, measure_falls, walk_few, arrives}
use Rattle.lfa.proofs.Laws.Target.{towards_router, towards_over}

-- some number falls at each step
pub falls : {n : ℕ} {hops : List Arc} → Sound n hops → (d : ℕ → ℕ → ℕ) (to : Target) → (m : ℕ → ℕ) × Falls hops d to m
falls sound d to = (measure sound.height d to, measure_falls d to sound.descends)

-- a target's own costs are 16-bit numbers
pub record Capped (to : Target) : Type 0 where
  pub own : {a c : ℕ} → Memᴰ (at a c) to → c ≤ 65535

module _ (n : ℕ) (hops : List Arc) (d : ℕ → ℕ → ℕ) (sound : Sound n hops) (dist : LeastCosts hops d) where
  walk_small : {to : Target} {x u k : ℕ} → Walk hops d to x u k → towards d to x ≤ k * 65535 + towards d to u
  walk_small here = omega arith
  walk_small (hop s w) = omega (arith, s.tight, sound.capped s.joined, walk_small w)

  -- A finite distance is at most 63 × 65,535: a path of least cost is a walk, which has fewer than N hops, each of at most 65,535.
  pub distance_small : (x t : ℕ) → x < n → d x t < unreachable → d x t ≤ 63 * 65535
  distance_small x t i f =
      let e = towards_router d t x (dist.most x t) in
      let e' = towards_router d t t (dist.most t t) in
      let z : d t t ≤ 0 = dist.least stay in
      let w = tight_walk hops d (router t) dist (router_none_leaves d t sound.descends dist) (dist.path x t f) (omega arith) (omega arith) in
      let g = falls sound d (router t) in
      let k : w.0 < n = walk_few hops d (router t) n g.0 sound.within g.1 i w.1 in
      omega (arith, sound.few, walk_small w.1)

  -- a real distance to a target is at most 4,194,240
  pub towards_small : (to : Target) → Capped to → (x : ℕ) → x < n → towards d to x < unreachable → towards d to x ≤ 4194240
  towards_small to capped x i f =
      let r = towards_over d to x f in
      omega (arith, r.3, capped.own r.2, distance_small x r.0 i (omega (arith, r.3)))

  -- where a path leads, the distance is finite
  pub path_finite : {x t k : ℕ} → x < n → RouterPath hops x t k → d x t < unreachable
  path_finite {x} i stay = omega (arith, dist.least (stay {x = x}))
  path_finite {x} {t} i (via {z} m r) =
      let f : d z t < unreachable = path_finite (sound.within.to m) r in
      omega (arith, sound.capped m, distance_small z t (sound.within.to m) f, dist.least (via m (dist.path z t f)))

  -- every walk from a router at a finite distance from a target arrives in fewer than n hops
  pub towards_arrives : (to : Target) (x : ℕ) → x < n → towards d to x < unreachable → Arrives hops d to n x
  towards_arrives to = let g = falls sound d to in arrives hops d to n g.0 sound.within g.1 dist
