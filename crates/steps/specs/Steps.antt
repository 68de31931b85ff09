-- The steps of the walks towards a target, by a column of distances to it: the next routers of each router, and the routers from which
-- steps lead to some of them.
-- Assumes nothing.
use Rattle.std.specs.Prelude.{ℕ, zero, suc, ◌+◌, min, Bool, true, false, not, ◌&&◌, List, map, eqb, ltb, get_or, replicate}
use Rattle.std.specs.Int.Bits.{bit_and, bit_or}
use Rattle.lfa.specs.Lists.{below, any_of}
use Rattle.lfa.specs.Network.{Arc, arc}
use Rattle.lfa.specs.Distance.{unreachable}
use Rattle.lfa.specs.Space.{has, set_of}
use Rattle.metric.specs.Fit.{links_fit}
use Rattle.metric.specs.Columns.{arcs_in}

-- ---- the next routers

-- a hop from u to v at this cost is a step; walks do not go on from a router of the set `ends`
unfoldable pub is_tight : (ends : ℕ) → (ℕ → ℕ) → (u v c : ℕ) → Bool
is_tight ends target u v c = not (has ends u) && eqb (min (c + target v) unreachable) (target u) && ltb (target u) unreachable

-- the arc is a step from x to z
unfoldable pub step_to : (ends : ℕ) → (ℕ → ℕ) → (x z : ℕ) → Arc → Bool
step_to ends target x z (arc u v c l) = eqb u x && (is_tight ends target u v c && eqb v z)

-- some arc is
unfoldable pub next_by : (ends : ℕ) → (ℕ → ℕ) → List Arc → (x z : ℕ) → Bool
next_by ends target hops x z = any_of (step_to ends target x z) hops

-- the set of the next routers, for each router below 64
unfoldable pub nexts_in : (ends : ℕ) → (ℕ → ℕ) → List Arc → List ℕ
nexts_in ends target hops = map (λ x. set_of 64 (next_by ends target hops x)) (below 64)

-- the same for any numbers: no next routers, where a link joins numbers that are not below 64
unfoldable pub nexts_by : (links : ℕ) → (from to out back : List ℕ) → (ends : ℕ) → (target : List ℕ) → List ℕ
nexts_by links from to out back ends target =
    elim (links_fit 64 links from to) [ true ↦ nexts_in ends (λ y. get_or target y 0) (arcs_in from to out back links) | false ↦ replicate 64 0 ]

-- ---- where steps lead

-- the routers of which some next router is in the set
unfoldable pub led_to : (nexts : List ℕ) → (set : ℕ) → ℕ
led_to nexts set = set_of 64 (λ x. not (eqb (bit_and (get_or nexts x 0) set) 0))

-- the routers from which fewer than k steps lead to a member of `start`
unfoldable pub led_in : (nexts : List ℕ) → (start k : ℕ) → ℕ
led_in nexts start zero = 0
led_in nexts start (suc k) = bit_or start (led_to nexts (led_in nexts start k))
