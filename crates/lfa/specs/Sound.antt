-- What accepted networks have, beyond their routers and costs, that laws of walks rest on, and with them the contracts of functions that follow
-- walks.
-- Assumes nothing.
use Rattle.std.specs.Prelude.{ℕ, ◌+◌, ◌*◌, ◌≤◌, ◌<◌, ◌≡◌, ◌⊎◌}
use mathlib.Core.List.{List, Memᴰ}
use Rattle.lfa.specs.Network.{Arc, arc}
use Rattle.lfa.specs.Space.{Protected}

-- the hops lead from and to routers below n
pub record Within (hops : List Arc) (n : ℕ) : Type 0 where
  pub from : {x z c l : ℕ} → Memᴰ (arc x z c l) hops → x < n
  pub to : {x z c l : ℕ} → Memᴰ (arc x z c l) hops → z < n

-- Each router has a height (a potential, in the words of graph theory), and no hop climbs as much as twice its cost. So a hop that costs
-- nothing leads down, and such hops do not lead round in a circle.
pub record Descends (hops : List Arc) (height : ℕ → ℕ) : Type 0 where
  pub hop : {x z c l : ℕ} → Memᴰ (arc x z c l) hops → height z < 2 * c + height x

-- all routers at one height: then the hops descend exactly where each costs something
abbrev pub level : ℕ → ℕ
level x = 0

-- the hops of an accepted network of n routers
pub record Sound (n : ℕ) (hops : List Arc) : Type 0 where
  pub few : n ≤ 64
  pub within : Within hops n
  pub height : ℕ → ℕ
  pub descends : Descends hops height
  pub capped : {x z c l : ℕ} → Memᴰ (arc x z c l) hops → c ≤ 65535

-- the arcs over the protected link are its two directions, and no others
pub record Named (hops : List Arc) (q : Protected) : Type 0 where
  pub outward : Memᴰ (arc q.near q.far q.out q.number) hops
  pub backward : Memᴰ (arc q.far q.near q.back q.number) hops
  pub only : {u v c : ℕ} → Memᴰ (arc u v c q.number) hops → ((u ≡ q.near) × (v ≡ q.far) × (c ≡ q.out)) ⊎ ((u ≡ q.far) × (v ≡ q.near) × (c ≡ q.back))
