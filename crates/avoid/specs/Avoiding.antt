-- The tests by distances, which the code computes, of whether a router avoids the protected link, the distances on the left side and those
-- in the sums given apart, and of whether it reaches another without visiting a third.
-- Assumes nothing.
use Rattle.std.specs.Prelude.{ℕ, ◌+◌, min, Bool, ◌&&◌, ltb}
use Rattle.lfa.specs.Distance.{unreachable}
use Rattle.lfa.specs.Space.{under_maintenance, Protected}
use Rattle.avoid.specs.declared.Protected as declared

-- the protected link that a value names
abbrev pub asked : declared.Protected → Protected
asked p = record { number = p.number; near = p.near; far = p.far; out = p.out; back = p.back; maintenance = under_maintenance }

-- a distance is below the costs over the link in both directions: `near` and `far` lead to S and E, `from_near` and `from_far` from there
abbrev pub below_both : (own near far out back from_near from_far : ℕ) → Bool
below_both own near far out back from_near from_far = ltb own (min (near + out + from_far) unreachable) && ltb own (min (far + back + from_near) unreachable)

-- Router x avoids the link on the way to a target, by the distances: `left` gives those to the target on the left side, `target` those
-- to it in the sums, and `sums` those to S and E. Towards a router this is avoiding; towards a prefix it is only enough for it.
unfoldable pub clears : (left : ℕ → ℕ) → (sums : ℕ → ℕ → ℕ) → Protected → (target : ℕ → ℕ) → ℕ → Bool
clears left sums q target x = below_both (left x) (sums x q.near) (sums x q.far) q.out q.back (target q.near) (target q.far)

-- router x avoids the link on the way to router r, by the distances on the left side and in the sums
unfoldable pub clears_to : (left sums : ℕ → ℕ → ℕ) → Protected → (x r : ℕ) → Bool
clears_to left sums q x r = clears (λ z. left z r) sums q (λ z. sums z r) x

-- x reaches router r, and no shortest path visits router v: the distance is below the sum over v
unfoldable pub misses_to : (ℕ → ℕ → ℕ) → (v x r : ℕ) → Bool
misses_to d v x r = ltb (d x r) (min (d x v + d v r) unreachable)
