-- The columns while links are drawn.
-- Assumes nothing.
use Rattle.std.specs.Prelude.{ℕ, ◌<◌, ◌≡◌, List, get_or}
use Rattle.lfa.specs.Network.{link}
use Rattle.lfa.specs.Ring.{ring_link}
use Rattle.lfa.specs.Drill.{out_drawn, back_drawn}

-- the columns hold the first `count` links of the drill of this seed with n routers
abbrev pub Drawn : (seed n count : ℕ) → (from to out back : List ℕ) → Type 0
Drawn seed n count from to out back =
    (i : ℕ) → i < count →
    link (get_or from i 0) (get_or to i 0) (get_or out i 0) (get_or back i 0) ≡ ring_link n (out_drawn seed) (back_drawn seed) i
