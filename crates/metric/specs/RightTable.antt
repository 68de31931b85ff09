-- What makes a table of distances right, whoever filled it: 0 on the diagonal, no arc undercuts a cell, and each finite cell off
-- the diagonal is shown by an arc that is tight.
-- Assumes nothing.
use Rattle.std.specs.Prelude.{ℕ, ◌+◌, ◌≤◌, ◌<◌, ◌≡◌, ◌⊎◌}
use mathlib.Core.List.{List, Memᴰ}
use Rattle.lfa.specs.Network.{Arc, arc}
use Rattle.lfa.specs.Distance.{unreachable}
use Rattle.metric.specs.Area.{area_cell}

pub record RightTable (hops : List Arc) (n : ℕ) (area : List ℕ) : Type 0 where
  pub diagonal : (x : ℕ) → x < n → area_cell n area x x ≡ 0
  pub slack : {x z c l : ℕ} (t : ℕ) → t < n → Memᴰ (arc x z c l) hops → area_cell n area x t ≤ c + area_cell n area z t
  pub shown : (x t : ℕ) → x < n → t < n → area_cell n area x t < unreachable →
      (x ≡ t) ⊎ ((z : ℕ) × (c : ℕ) × (l : ℕ) × Memᴰ (arc x z c l) hops × (c + area_cell n area z t ≡ area_cell n area x t))
  pub most : (x t : ℕ) → x < n → t < n → area_cell n area x t ≤ unreachable
