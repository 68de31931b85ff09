-- The order of pairs as the code holds them: the keys, in the order in which they are compared, the earlier of what was found and one pair
-- more, the class, and what a repair tells of a pair.
-- Assumes nothing.
use Rattle.std.specs.Prelude.{ℕ, ◌+◌, Bool, true, false, List, [], ◌∷◌, eqb, ltb, Some, None}
use Rattle.std.specs.Prelude as code
use Rattle.std.proofs.Math.Option.{Option, none, some}
use Rattle.lfa.specs.Repair.{Told, no_later, or_else}
use Rattle.order.specs.declared.Pair.{Pair}
use Rattle.order.specs.declared.Ordered.{Ordered}

-- what a repair tells of a pair
abbrev pub told_in : Pair → Told
told_in p = record { first = p.first; endpoint = p.endpoint; class = p.class; cost = p.cost }

-- the keys of a pair, the rank of its class first
abbrev pub keys_in : Ordered → List ℕ
keys_in o = o.rank ∷ o.distance ∷ o.pair.endpoint ∷ o.pair.cost ∷ o.pair.first ∷ []

-- what was found, if any pair was
abbrev pub earliest_in : code.Option Ordered → Option Ordered
earliest_in None = none
earliest_in (Some o) = some o

-- the earlier of what was found and one more
unfoldable pub earlier_of : Option Ordered → Ordered → Option Ordered
earlier_of none o = some o
earlier_of (some b) o = elim (no_later (keys_in b) (keys_in o)) [ true ↦ some b | false ↦ some o ]

-- the class of a pair whose endpoint is at distance `end` from the target, S being at distance `near`; whether it is node-protecting
abbrev pub class_by : (n y end near : ℕ) → (protecting : Bool) → ℕ
class_by n y end near protecting = or_else (eqb y n) 2 + or_else (ltb end near) 1 + or_else protecting 4
