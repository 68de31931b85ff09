-- What the public functions answer for any numbers: where these are not those of a network, a column is all zeros, and a set is empty.
-- Assumes nothing.
use Rattle.std.specs.Prelude.{ℕ, ◌+◌, Bool, true, false, ◌&&◌, List, eqb, ltb, get_or, length, replicate}
use Rattle.lfa.specs.Lists.{below, any_of}
use Rattle.lfa.specs.Network.{router}
use Rattle.lfa.specs.Distance.{towards}
use Rattle.lfa.specs.Space.{set_of}
use Rattle.metric.specs.Fit.{cells_fit, slots_fit}
use Rattle.metric.specs.Area.{held}
use Rattle.metric.specs.Column.{column, slots_in}

-- the distances to router t, from each of the n routers
unfoldable pub router_column : (n t : ℕ) → (area : List ℕ) → List ℕ
router_column n t area = elim (cells_fit n (length area) && ltb t n) [ true ↦ column n (towards (held n area) (router t)) | false ↦ replicate 64 0 ]

-- the distances to the prefix whose first slot is `slot`, from each of the n routers
unfoldable pub prefix_column : (n : ℕ) → (routers costs : List ℕ) → (slot count : ℕ) → (area : List ℕ) → List ℕ
prefix_column n routers costs slot count area =
    elim (cells_fit n (length area) && slots_fit n slot count routers) [ true ↦ column n (towards (held n area) (slots_in routers costs slot count)) | false ↦ replicate 64 0 ]

-- router x is in one of the slots
unfoldable pub in_slots : (routers : List ℕ) → (slot count x : ℕ) → Bool
in_slots routers slot count x = any_of (λ s. eqb (get_or routers (slot + s) 0) x) (below count)

-- the set of the routers attached to the prefix whose first slot is `slot`; empty, where a slot holds a number that is not below 64
unfoldable pub attached_set : (routers : List ℕ) → (slot count : ℕ) → ℕ
attached_set routers slot count = elim (slots_fit 64 slot count routers) [ true ↦ set_of 64 (in_slots routers slot count) | false ↦ 0 ]
