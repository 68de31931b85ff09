-- The legs of a route, as the play goes them: from a router on, each choice byte takes an option, until the leg stops or delivers.
-- Assumes nothing.
use Rattle.std.specs.Prelude.{ℕ, suc, ◌*◌, ◌≤◌, ◌≡◌, List, [], ◌∷◌}
use Rattle.lfa.specs.Route.{Move, deliver, go, Takes}
use Rattle.lfa.specs.Sound.{Descends, level}
use Rattle.metric.specs.Fit.{ColumnsWithin, SlotsWithin}
use Rattle.metric.specs.Columns.{arcs_in}

-- The routers of a leg from x, choice byte number i being the next, and the number of the next choice byte then. It stops at the router
-- `stop` without a choice byte: y on the first leg, and no router on the second. Every other router uses one, also to deliver.
pub data Leg (moves : ℕ → List Move) (choices : List ℕ) (stop : ℕ) : ℕ → ℕ → List ℕ → ℕ → Type 0 where
  stopped : {i x : ℕ} → x ≡ stop → Leg moves choices stop i x [] i
  delivered : {i x : ℕ} → (x ≡ stop → ⊥) → Takes moves choices i x deliver → Leg moves choices stop i x [] (suc i)
  onward : {i x z j : ℕ} {rs : List ℕ} → (x ≡ stop → ⊥) → Takes moves choices i x (go z) → Leg moves choices stop (suc i) z rs j → Leg moves choices stop i x (z ∷ rs) j

-- the columns hold a network whose hops descend, and the slots of a target; the area is long enough for its distances
pub record Playable (n cells links : ℕ) (from to out back routers : List ℕ) (slot count : ℕ) : Type 0 where
  pub within : ColumnsWithin n links from to
  pub descends : Descends (arcs_in from to out back links) level
  pub slots : SlotsWithin n slot count routers
  pub long : n * n ≤ cells
