-- The whole answer of every call, the exit of every lent buffer, and the file part's other answers. The contracts of the public calls
-- cite `answer_to` and `exit_of` (by the records of `Contract`), `network_loaded`, `link_part`, `prefix_part` and `Space.size_of`.
-- Assumes nothing.
use Rattle.std.specs.Prelude.{ℕ, Bool, true, false, List, [], ◌++◌, ltb, length, drop}
use Rattle.std.proofs.Math.Option.{Option, none, some}
use Rattle.lfa.specs.Network.{Network, arcs}
use Rattle.lfa.specs.File.{Bytes, links_of, prefixes_of, network_of, link_entry, prefix_entry}
use Rattle.lfa.specs.Distance.{filled}
use Rattle.lfa.specs.Space.{space_of}
use Rattle.lfa.specs.Repair.{Told, Outcome, prefix_unreachable, prefix_untouched, none_serves, serving}
use Rattle.lfa.specs.Route.{route_of}
use Rattle.lfa.specs.Question.{Question, Call, load, fill, space, link_repair, prefix_repair, route, Buffer, work_area, route_buffer, network_asked, link_asked, prefix_asked, with_distances, link_found, prefix_found}
use Rattle.lfa.specs.Refusal.{Row, FileRow, no_pair, Left, as_lent, written, entry_of, Decided, decided, file_refusal, refusal_of, early_refusal}

-- what a call answers, in document 01's numbers and words
pub data Answer : Type 0 where
  refused : (number value : ℕ) → Answer
  accepted done untouched unreached : Answer
  set : (members : ℕ) → Answer
  repair : Told → Answer
  played : (count : ℕ) → Answer

unfoldable pub refusal : Decided Row → Answer
refusal (decided r v) = refused (entry_of r).number v

-- the answer to a question that is turned away before anything is searched for, if it is
unfoldable pub early_answer : Question → Option Answer
early_answer q = elim (early_refusal q) [ some d ↦ some (refusal d) | none ↦ none ]

-- the routers that a route call writes: none where there is no pair
unfoldable pub route_for : Question → Outcome → List ℕ
route_for q prefix_unreachable = []
route_for q prefix_untouched = []
route_for q none_serves = []
route_for q (serving t) =
    with_distances (network_asked q) (λ d. route_of (network_asked q).routers (arcs (network_asked q)) d (prefix_asked q) q.choices (link_asked q).near t.first t.endpoint)

unfoldable pub route_played : Question → List ℕ
route_played q = route_for q (prefix_found q)

unfoldable pub repair_answer : Outcome → Answer
repair_answer prefix_unreachable = unreached
repair_answer prefix_untouched = untouched
repair_answer none_serves = refused (entry_of no_pair).number 0
repair_answer (serving t) = repair t

-- a route call passes other answers on
unfoldable pub route_answer : Outcome → ℕ → Answer
route_answer prefix_unreachable count = unreached
route_answer prefix_untouched count = untouched
route_answer none_serves count = refused (entry_of no_pair).number 0
route_answer (serving t) count = played count

-- the answer of a call that no row before 14 turns away
unfoldable pub computed : Question → Call → Answer
computed q load = accepted
computed q fill = done
computed q (space s) = set (with_distances (network_asked q) (λ d. space_of s (network_asked q).routers (arcs (network_asked q)) d (link_asked q)))
computed q (link_repair f) = repair_answer (link_found q)
computed q (prefix_repair f) = repair_answer (prefix_found q)
computed q (route f) = route_answer (prefix_found q) (length (route_played q))

-- the whole answer of a call
unfoldable pub answer_to : Question → Answer
answer_to q = elim (refusal_of q) [ some r ↦ refusal r | none ↦ computed q q.call ]

-- ---- the exit of each lent buffer

-- what a call writes into a buffer: the distances into the work area ("Calls that compute leave the distances in the work area
-- whenever rows 1 to 13 don't apply", and by Point 2 number 15), and the routers of the route into the route buffer, of which "later bytes ..
-- are untouched"
unfoldable pub written_to : Question → Buffer → List ℕ → List ℕ
written_to q work_area before = filled (network_asked q) before
written_to q route_buffer before = route_played q ++ drop (length (route_played q)) before

unfoldable pub leave : Left → List ℕ → List ℕ → List ℕ
leave as_lent before new = before
leave written before new = new

-- what a buffer holds at exit: what the call writes there, unless a row leaves it
unfoldable pub exit_by : Option (Decided Row) → Buffer → List ℕ → List ℕ → List ℕ
exit_by none x before new = new
exit_by (some (decided r v)) x before new = leave ((entry_of r).left x) before new

unfoldable pub exit_of : Question → Buffer → List ℕ → List ℕ
exit_of q x before = exit_by (refusal_of q) x before (written_to q x before)

-- the work area and the route buffer at exit
abbrev pub work_after : Question → List ℕ → List ℕ
work_after q area = exit_of q work_area area

abbrev pub route_after : Question → List ℕ → List ℕ
route_after q buffer = exit_of q route_buffer buffer

-- ---- the file part's other answers

-- the network beside the answer of `load`: that of an accepted file, and the one with nothing in it for a refused file
unfoldable pub network_loaded : Bytes → Network
network_loaded b = elim (file_refusal b) [ none ↦ network_of b | some r ↦ record { routers = 0; links = []; prefixes = [] } ]

-- "the bytes of one named entry .. for a refused file or a link or prefix number too large that part, its whole answer, is empty"
unfoldable pub part_if : Option (Decided FileRow) → Bool → Bytes → Bytes
part_if (some r) in_range part = []
part_if none true part = part
part_if none false part = []

unfoldable pub link_part : Bytes → ℕ → Bytes
link_part b k = part_if (file_refusal b) (ltb k (links_of b)) (link_entry b k)

unfoldable pub prefix_part : Bytes → ℕ → Bytes
prefix_part b k = part_if (file_refusal b) (ltb k (prefixes_of b)) (prefix_entry b k)
