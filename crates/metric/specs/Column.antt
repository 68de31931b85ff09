-- Columns of numbers, one for each router, and the attachments of a prefix as columns hold them.
-- Assumes nothing.
use Rattle.std.specs.Prelude.{ℕ, ◌+◌, List, map, get_or}
use Rattle.lfa.specs.Lists.{below}
use Rattle.lfa.specs.Network.{Target, at}
use Rattle.lfa.specs.FileOf.{pad}

-- a number for each of n routers, and zeros up to 64 cells
unfoldable pub column : ℕ → (ℕ → ℕ) → List ℕ
column n f = pad 64 (map f (below n))

-- the attachments of the prefix whose first slot is `slot`
unfoldable pub slots_in : (routers costs : List ℕ) → ℕ → ℕ → Target
slots_in routers costs slot count = map (λ s. at (get_or routers (slot + s) 0) (get_or costs (slot + s) 0)) (below count)
