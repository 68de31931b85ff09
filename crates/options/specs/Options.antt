-- The options at a router, by the sets of its next routers and of the attached ones and a column of distances to the target, and the one
-- that a choice byte takes.
-- Assumes nothing.
use Rattle.std.specs.Prelude.{ℕ, Bool, true, false, ◌&&◌, List, ltb, get_or}
use Rattle.lfa.specs.Lists.{below, select}
use Rattle.lfa.specs.Distance.{unreachable}
use Rattle.lfa.specs.Space.{has}
use Rattle.lfa.specs.Route.{Move, deliver, go, moves_of, option_taken}
use Rattle.options.specs.declared.Move as declared
use Rattle.options.specs.declared.Move.TheVariants.{Deliver, Go}

-- the move of each case of the enum
unfoldable pub move_in : declared.Move → Move
move_in Deliver = deliver
move_in (Go z) = go z

-- x delivers, at this distance from the target: it is in the set of the attached routers
unfoldable pub delivers_by : (ends d x : ℕ) → Bool
delivers_by ends d x = ltb d unreachable && has ends x

-- the members of a set, ascending
unfoldable pub members_of : ℕ → List ℕ
members_of set = select (has set) (below 64)

-- The move that a choice byte takes at router x, for any numbers: delivery, where x is not below 64.
unfoldable pub move_by : (next ends : ℕ) → (target : List ℕ) → (x byte : ℕ) → Move
move_by next ends target x byte =
    elim (ltb x 64) [ true ↦ option_taken (moves_of (delivers_by ends (get_or target x 0) x) (members_of next)) byte | false ↦ deliver ]
