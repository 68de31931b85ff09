-- The arcs of the link columns, by their numbers.
-- Assumes nothing.
use Rattle.std.specs.Prelude.{ℕ, ◌/◌, ◌%◌, Bool, true, false, not, ◌&&◌, List, eqb, ltb, get_or}
use Rattle.lfa.specs.Space.{Protected, FirstHop}
use Rattle.arcs.specs.declared.Hop.{Hop}

-- What two columns hold for an arc: arc 2k leads over link k from its first router to its second and reads the first column, arc
-- 2k + 1 leads the other way and reads the second.
unfoldable pub side_of : ℕ → (there back : List ℕ) → ℕ
side_of a there back = elim (eqb (a % 2) 0) [ true ↦ get_or there (a / 2) 0 | false ↦ get_or back (a / 2) 0 ]

-- an arc is a first hop: it leaves S, does not lead to E, and is not under maintenance
unfoldable pub leaves_near : Protected → (from to out back : List ℕ) → ℕ → Bool
leaves_near q from to out back a = eqb (side_of a from to) q.near && not (eqb (side_of a to from) q.far) && ltb (side_of a out back) q.maintenance

-- an arc as a first hop: the router that it leads to, its cost and its link
abbrev pub hop_by : (from to out back : List ℕ) → ℕ → FirstHop
hop_by from to out back a = record { router = side_of a to from; cost = side_of a out back; over = a / 2 }

-- the first hop that a value names
abbrev pub hop_in : Hop → FirstHop
hop_in h = record { router = h.router; cost = h.cost; over = h.over }
