-- The search for a pair, by the numbers that an area holds for n routers: the pairs that are tried, and the first of them.
-- Assumes nothing.
use Rattle.std.specs.Prelude.{ℕ, ◌+◌, ◌*◌, ◌<◌, min, ◌≡◌, Bool, not, ◌&&◌, List, [], ◌∷◌, map, eqb, get_or, Some, None, MatchOption}
use Rattle.std.specs.Prelude as code
use Rattle.std.proofs.Math.Option.{Option, none, some}
use Rattle.std.specs.Int.Bits.{bit_and}
use Rattle.lfa.specs.Lists.{below, select, flat}
use Rattle.lfa.specs.Network.{Arc}
use Rattle.lfa.specs.Distance.{unreachable}
use Rattle.lfa.specs.Space.{Protected, FirstHop, first_hops, extended_p, has}
use Rattle.lfa.specs.Ranks.{classes, rank_of}
use Rattle.lfa.specs.Repair.{Outcome, prefix_unreachable, prefix_untouched, none_serves, serving}
use Rattle.metric.specs.Area.{cell_in}
use Rattle.order.specs.declared.Pair as declared
use Rattle.order.specs.declared.Ordered.{Ordered}
use Rattle.order.specs.Order.{told_in, earlier_of, class_by}
use Rattle.avoid.specs.Calls.{missing_from}
use Rattle.steps.specs.declared.Onward.{Onward}
use Rattle.search.specs.declared.Repair.{Repair}
use Rattle.search.specs.declared.Repair.TheVariants.{Unreachable, Untouched, Pair}
use Rattle.search.specs.Spaces.{avoided_from, space_for}

-- ---- what is answered

-- what a search that found this pair answers
abbrev pub outcome_for : Option Ordered → Outcome
outcome_for none = none_serves
outcome_for (some o) = serving (told_in o.pair)

-- the outcome of the pair that is found, if any is
abbrev pub outcome_of_pair : code.Option declared.Pair → Outcome
outcome_of_pair None = none_serves
outcome_of_pair (Some p) = serving (told_in p)

-- the outcome of each case of what is found for a prefix
abbrev pub outcome_in : code.Option Repair → Outcome
outcome_in None = none_serves
outcome_in (Some Unreachable) = prefix_unreachable
outcome_in (Some Untouched) = prefix_untouched
outcome_in (Some (Pair p)) = serving (told_in p)

-- ---- the first of some pairs

-- the earliest of what was found and of some pairs, tried one after the other
unfoldable pub first_of : Option Ordered → List Ordered → Option Ordered
first_of found [] = found
first_of found (o ∷ os) = first_of (earlier_of found o) os

-- the endpoint of the first of some pairs, each of which has its endpoint, if there are any
abbrev pub FirstEnd : (at : ℕ → Ordered) → (pairs : List Ordered) → code.Option ℕ → Type 0
FirstEnd at pairs end = MatchOption end (first_of none pairs ≡ none) (λ y. (y < 64) × (first_of none pairs ≡ some (at y)))

-- ---- the pairs that are tried

-- the pair of a first hop and an endpoint; a column holds the distances to the target, and a set the endpoints that make it
-- node-protecting. The first key is the rank of the class.
unfoldable pub ordered_at : (ranks : List ℕ) → (n : ℕ) → (area : List ℕ) → (near : ℕ) → (column : List ℕ) → FirstHop → (protecting y : ℕ) → Ordered
ordered_at ranks n area near column f protecting y =
    let class = class_by f.router y (get_or column y 0) (get_or column near 0) (has protecting y) in
    record {
      rank = rank_of ranks class;
      distance = cell_in n area near y;
      pair = record { first = f.router; endpoint = y; class = class; cost = min (f.cost + cell_in n area f.router y) unreachable };
    }

-- for each class below `count`, its rank times 2 to the power 32; a rank is a byte
abbrev pub KeysBelow : (count : ℕ) → (ranks keys : List ℕ) → Type 0
KeysBelow count ranks keys = (class : ℕ) → class < count → (get_or keys class 0 ≡ 4294967296 * rank_of ranks class) × (rank_of ranks class < 256)

abbrev pub KeysOf : (ranks keys : List ℕ) → Type 0
KeysOf ranks keys = KeysBelow classes ranks keys

-- the key of the endpoint y of a first hop, by the keys of the classes; a distance is below 2 to the power 32
pub record KeyOf (keys : List ℕ) (n : ℕ) (area : List ℕ) (near : ℕ) (column : List ℕ) (first protecting y key : ℕ) : Type 0 where
  pub sum : key ≡ get_or keys (class_by first y (get_or column y 0) (get_or column near 0) (has protecting y)) 0 + cell_in n area near y
  pub short : cell_in n area near y < 4294967296

-- router y is in the set, and neither S nor E
abbrev pub may_end : (set near far y : ℕ) → Bool
may_end set near far y = has set y && (not (eqb y near) && not (eqb y far))

-- the pairs of one first hop whose endpoints are in the set and below `last`
unfoldable pub hop_pairs : (ranks : List ℕ) → (n : ℕ) → (area : List ℕ) → (near far : ℕ) → (column : List ℕ) → FirstHop → (protecting set last : ℕ) → List Ordered
hop_pairs ranks n area near far column f protecting set last = map (ordered_at ranks n area near column f protecting) (select (may_end set near far) (below last))

-- the endpoints that make the pairs of a first hop node-protecting: those that it reaches without visiting E, and from which the second
-- leg misses E
abbrev pub protecting_from : (n : ℕ) → Protected → (area : List ℕ) → (missing : ℕ) → FirstHop → ℕ
protecting_from n q area missing f = bit_and (missing_from n q.far area f.router) missing

-- the pairs of one first hop whose endpoints are kept, and are those that it avoids the link on the way to
unfoldable pub pairs_over : (ranks : List ℕ) → (n : ℕ) → Protected → (area column : List ℕ) → (kept : Onward) → FirstHop → List Ordered
pairs_over ranks n q area column kept f = hop_pairs ranks n area q.near q.far column f (protecting_from n q area kept.missing f) (bit_and kept.avoiding (avoided_from n q area f.router)) n

unfoldable pub pairs_tried : (ranks : List ℕ) → (n : ℕ) → Protected → (area column : List ℕ) → (kept : Onward) → List FirstHop → List Ordered
pairs_tried ranks n q area column kept firsts = flat (map (pairs_over ranks n q area column kept) firsts)

-- of the endpoints from which the second leg avoids the link, those of extended P
abbrev pub kept_of : (extended : ℕ) → Onward → Onward
kept_of extended onward = record { avoiding = bit_and extended onward.avoiding; missing = onward.missing }

-- The first of the pairs that serve a target to which a column holds the distances: their endpoints are in extended P, masked by the set
-- of routers from which the second leg avoids the link. From those of another set it misses E.
unfoldable pub first_serving : (ranks : List ℕ) → (n : ℕ) → List Arc → Protected → (area column : List ℕ) → Onward → Option Ordered
first_serving ranks n hops q area column onward = first_of none (pairs_tried ranks n q area column (kept_of (space_for extended_p n hops q area) onward) (first_hops q hops))
