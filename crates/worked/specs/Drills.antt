-- The draws and the drill that SPECIFICATION works out by hand (Point 13): the definitions yield them.
-- Assumes nothing.
use Rattle.std.specs.Prelude.{ℕ, ◌≡◌, refl, List, [], ◌∷◌, map}
use Rattle.lfa.specs.Lists.{count_up, below}
use Rattle.lfa.specs.Network.{Network, link}
use Rattle.lfa.specs.Ring.{next_on_ring, ring_link, ring_of}
use Rattle.lfa.specs.Drill.{replaced, seed_after, upper_bits, draw, cost_drawn, out_drawn, back_drawn, drill_of}

-- the first draws of a seed
unfoldable pub first_draws : (seed count : ℕ) → List ℕ
first_draws seed count = map (draw seed) (below count)

-- the drill of seed 1 with 3 routers
unfoldable pub drill1with3 : Network
drill1with3 = record { routers = 3; links = link 0 1 97 1 ∷ link 1 2 47 96 ∷ link 2 0 13 17 ∷ []; prefixes = [] }

pub record DrillsYielded : Type 0 where
  pub seed_0 : first_draws 0 2 ≡ 15470 ∷ 18256 ∷ []
  pub seed_1 : first_draws 1 6 ≡ 15496 ∷ 24200 ∷ 33046 ∷ 46195 ∷ 3312 ∷ 24216 ∷ []
  pub last_seed : first_draws 4294967295 2 ≡ 15445 ∷ 12311 ∷ []
  pub drill : drill_of 1 3 ≡ drill1with3

pub drills_worked : DrillsYielded
unfolding first_draws drill1with3 count_up below next_on_ring ring_link ring_of replaced seed_after upper_bits draw cost_drawn out_drawn back_drawn drill_of
drills_worked = record { seed_0 = refl; seed_1 = refl; last_seed = refl; drill = refl }
