-- What the calls of the repair part answer, in document 01's numbers and words.
-- Assumes nothing.
use Rattle.std.specs.Prelude.{ℕ, Result, Ok, Err, ⊤}
use Rattle.lfa.specs.Answer.{Answer, done, untouched, unreached, set, repair}
use Rattle.order.specs.Order.{told_in}
use Rattle.question.specs.Turning.{refusal_answer}
use Rattle.question.specs.declared.Refusal.{Refusal}
use Rattle.search.specs.declared.Repair.{Repair}
use Rattle.search.specs.declared.Repair.TheVariants.{Unreachable, Untouched, Pair}

unfoldable pub filled_answer : Result ⊤ Refusal → Answer
filled_answer (Ok filled) = done
filled_answer (Err r) = refusal_answer r

-- the set, router r being the bit of weight 2 to the power r
unfoldable pub space_answer : Result ℕ Refusal → Answer
space_answer (Ok members) = set members
space_answer (Err r) = refusal_answer r

unfoldable pub repair_of : Result Repair Refusal → Answer
repair_of (Err r) = refusal_answer r
repair_of (Ok Unreachable) = unreached
repair_of (Ok Untouched) = untouched
repair_of (Ok (Pair p)) = repair (told_in p)
