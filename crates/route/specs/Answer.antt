-- What a route call answers, in document 01's words, and the answers of the prefix repair that it passes on.
-- Assumes nothing.
use Rattle.std.specs.Prelude.{Result, Ok, Err}
use Rattle.lfa.specs.Answer.{Answer, untouched, unreached, played}
use Rattle.question.specs.declared.Refusal.{Refusal}
use Rattle.question.specs.Turning.{refusal_answer}
use Rattle.search.specs.declared.Repair.{Repair}
use Rattle.search.specs.declared.Repair.TheVariants as repair
use Rattle.route.specs.declared.Played.{Played}
use Rattle.route.specs.declared.Played.TheVariants.{Unreachable, Untouched, Written}

unfoldable pub played_of : Result Played Refusal → Answer
played_of (Err r) = refusal_answer r
played_of (Ok Unreachable) = unreached
played_of (Ok Untouched) = untouched
played_of (Ok (Written count)) = played count

-- an answer without a pair as it is, and a pair as no routers written
unfoldable pub passed_on : Result Repair Refusal → Answer
passed_on (Err r) = refusal_answer r
passed_on (Ok repair.Unreachable) = unreached
passed_on (Ok repair.Untouched) = untouched
passed_on (Ok (repair.Pair p)) = played 0
