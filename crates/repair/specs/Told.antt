-- The numbers of the questions for a repair, and what is answered once the rows before 14 are tried.
-- Assumes nothing.
use Rattle.std.specs.Prelude.{ℕ, Bool, Result, Ok, Err}
use Rattle.lfa.specs.Repair.{Outcome}
use Rattle.lfa.specs.Answer.{Answer, repair_answer}
use Rattle.metric.specs.declared.columns.Links.{Links}
use Rattle.rows.specs.declared.Asked.{Asked}
use Rattle.rows.specs.declared.Call.TheVariants.{Link, Prefix}
use Rattle.question.specs.declared.Refusal.{Refusal}
use Rattle.question.specs.Turning.{refusal_answer}

unfoldable pub link_numbers : Bool → (link end : ℕ) → Asked
link_numbers ranked link end = record { call = Link; buffer = 0; ranked = ranked; link = link; end = end; prefix = 0 }

unfoldable pub prefix_numbers : Bool → (link end prefix : ℕ) → Asked
prefix_numbers ranked link end prefix = record { call = Prefix; buffer = 0; ranked = ranked; link = link; end = end; prefix = prefix }

-- a refusal, or what was found
unfoldable pub told_by : Result Links Refusal → Outcome → Answer
told_by (Err x) found = refusal_answer x
told_by (Ok links) found = repair_answer found
