-- Demand 3 of `lfa`'s Demands, said of any answer to a question: an answer that is document 01's meets it.
-- Assumes nothing.
use Rattle.std.specs.Prelude.{◌≡◌}
use Rattle.std.proofs.Common.{sym, subst}
use Rattle.lfa.specs.Question.{Question}
use Rattle.lfa.specs.Refusal.{Posed}
use Rattle.lfa.specs.Answer.{Answer, answer_to}
use Rattle.lfa.specs.Demands.{Demand3}
use Rattle.lfa.proofs.Laws.Demands.{demands}

-- "For every accepted file, every link and end of it, and every prefix ..": the answer to a question that no row before 14 turns away
pub record MeetsDemand3 (q : Question) (answer : Answer) : Type 0 where
  pub where_posed : Posed q → Demand3 q answer

pub answer_meets : (q : Question) (answer : Answer) → answer ≡ answer_to q → MeetsDemand3 q answer
answer_meets q answer s = subst (MeetsDemand3 q) (sym s) (record { where_posed = demands.demand_3 q })
