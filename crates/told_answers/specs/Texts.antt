-- The texts of answers, as bytes.
-- Assumes nothing.
use Rattle.std.specs.Prelude.{ℕ, List, [], ◌∷◌, ◌++◌, codes, flat_map, length, take, drop, min, ◌==◌, Option, Some, Result, Ok, Err}
use Rattle.std.specs.Fmt.{decimal}
use Rattle.std.specs.List.{list_all}
use Rattle.lfa.specs.Answer.{Answer, refused}
use Rattle.order.specs.declared.Pair.{Pair}
use Rattle.question.specs.Turning.{refusal_answer}
use Rattle.question.specs.declared.Refusal.{Refusal}
use Rattle.refusal.specs.declared.Row.{Row}
use Rattle.search.specs.declared.Repair.{Repair}
use Rattle.search.specs.declared.Repair.TheVariants.{Unreachable, Untouched, Pair as Repaired}
use Rattle.route.specs.declared.Played.{Played}
use Rattle.route.specs.declared.Played.TheVariants.{Unreachable as Unreached, Untouched as Unaltered, Written}
use Rattle.told.specs.Texts.{kept_text}

-- a refusal: its number, and its value
abbrev pub row_text : Row → List ℕ
row_text row = codes "refused " ++ (decimal row.number ++ (32 ∷ decimal row.value))

-- the same of an answer in document 01's numbers, where it is a refusal
abbrev pub refused_text : Answer → List ℕ
refused_text (refused number value) = codes "refused " ++ (decimal number ++ (32 ∷ decimal value))
refused_text _ = []

-- an answer: a refusal, or what is told, which has a text by `text`
abbrev pub answer_text : {T : Type 0} → (T → Option (List ℕ)) → Result T Refusal → Option (List ℕ)
answer_text text (Ok told) = text told
answer_text text (Err refusal) = Some (refused_text (refusal_answer refusal))

-- the fields of a pair
abbrev pub pair_text : Pair → List ℕ
pair_text p = decimal p.first ++ (32 ∷ (decimal p.endpoint ++ (32 ∷ (decimal p.class ++ (32 ∷ decimal p.cost)))))

-- a repair, or what is answered in its place
abbrev pub repair_text : Repair → List ℕ
repair_text Unreachable = codes "unreachable"
repair_text Untouched = codes "untouched"
repair_text (Repaired p) = codes "pair " ++ pair_text p

-- a set
abbrev pub set_text : ℕ → List ℕ
set_text set = codes "set " ++ decimal set

-- a played route, without its routers
abbrev pub played_text : Played → List ℕ
played_text Unreached = codes "unreachable"
played_text Unaltered = codes "untouched"
played_text (Written count) = codes "count " ++ (decimal count ++ codes " route")

-- routers, each after a space
abbrev pub routers_text : List ℕ → List ℕ
routers_text routers = flat_map (λ r. 32 ∷ decimal r) routers

-- how many of the bytes of a route buffer a call for a route wrote
abbrev pub written_of : Result Played Refusal → List ℕ → ℕ
written_of (Ok (Written count)) buffer = min count (length buffer)
written_of _ buffer = 0

-- an answer of a call for a route
abbrev pub route_text : Result Played Refusal → List ℕ
route_text (Ok played) = played_text played
route_text (Err refusal) = refused_text (refusal_answer refusal)

-- the same, the routers that were written, and whether every later byte of the route buffer still holds 255
abbrev pub routed_text : Result Played Refusal → List ℕ → List ℕ
routed_text answer buffer =
    route_text answer ++ (routers_text (take (written_of answer buffer) buffer) ++ (32 ∷ kept_text (list_all (λ b. b == 255) (drop (written_of answer buffer) buffer))))
