-- Walks as they were before Point 4, to say where it changes nothing.
-- Assumes nothing.
use Rattle.std.specs.Prelude.{ℕ, ◌+◌, ◌<◌, ◌≡◌}
use mathlib.Core.List.{List, Memᴰ}
use Rattle.lfa.specs.Network.{Arc, arc, at, Target}
use Rattle.lfa.specs.Distance.{unreachable, towards}

-- "A walk towards t steps from x to a neighbour z when the cost x to z plus D(z,t) equals finite D(x,t)", from an attached router too
pub record FormerStep (hops : List Arc) (d : ℕ → ℕ → ℕ) (to : Target) (x z l : ℕ) : Type 0 where
  pub cost : ℕ
  pub joined : Memᴰ (arc x z cost l) hops
  pub tight : cost + towards d to z ≡ towards d to x
  pub finite : towards d to x < unreachable

-- "an attached router whose own cost equals D(x,p) may deliver"
pub record FormerDelivers (d : ℕ → ℕ → ℕ) (to : Target) (x : ℕ) : Type 0 where
  pub own : ℕ
  pub attached : Memᴰ (at x own) to
  pub tight : own ≡ towards d to x
  pub finite : towards d to x < unreachable

-- Each attached router's own cost is below the cost over any neighbour: then the walks of then are those of today.
abbrev pub OwnCostsBelow : List Arc → (ℕ → ℕ → ℕ) → Target → Type 0
OwnCostsBelow hops d to = (x own z c l : ℕ) → Memᴰ (at x own) to → Memᴰ (arc x z c l) hops → own < c + towards d to z
