-- What the answer of `pose` tells of a question: it is turned away with that refusal, or no row before 14 applies to it, and the work area
-- holds the distances. The answer of `pose_with` tells the same, of the table in place of the work area.
-- Assumes nothing.
use Rattle.std.specs.Prelude.{ℕ, ◌<◌, ◌≡◌, refl, List, length, Result, Ok, Err}
use Rattle.std.proofs.Common.{sym, ◌∙◌}
use Rattle.std.proofs.lemmas.Result.{IfOk-at_ok}
use Rattle.std.proofs.Math.Path.{ap}
use Rattle.lfa.specs.File.{byte_at, network_of}
use Rattle.lfa.specs.Distance.{filled}
use Rattle.lfa.specs.Question.{Question, a_table, HasInput, network_asked}
use Rattle.lfa.specs.Refusal.{Posed}
use Rattle.lfa.specs.Answer.{network_loaded}
use Rattle.lfa.specs.Contract.{Answered}
use Rattle.lfa.proofs.Laws.Accepted.{accepted_loaded}
use Rattle.lfa.proofs.Laws.Turned.{TurnedAway, answer_turned_away, answer_posed}
use Rattle.metric.specs.declared.columns.Links.{Links}
use Rattle.metric.proofs.Laws.Area as metric
use Rattle.question.specs.declared.Refusal.{Refusal}
use Rattle.question.specs.Turning.{refusal_answer, turned_row, turned_answer, area_posed, Judges, Poses}
use Rattle.question.specs.Taken.{Taken}
use Rattle.question.specs.Laws.Loaded.{taken_posed}

module _ {q : Question} {posed : Result Links Refusal} {area after : List ℕ} (j : Poses q posed area after) where
  -- where it is turned away
  module _ {x : Refusal} (e : posed ≡ Err x) where
    pub refused_away : TurnedAway q (refusal_answer x)
    unfolding turned_answer turned_row refusal_answer
    refused_away = answer_turned_away q (refusal_answer x) (sym j.judges.turned_is ∙ ap turned_answer e)

    pub area_lent : after ≡ area
    unfolding area_posed
    area_lent = j.area_is ∙ ap (λ (t : Result Links Refusal). area_posed t (network_loaded q.file) area) e

    pub refused_answered : Answered q (refusal_answer x) area after
    refused_answered = record { answer_is = sym refused_away.answered; area_is = area_lent ∙ sym (refused_away.area_left area) }

  -- where it is not
  module _ {links : Links} (bytes : (i : ℕ) → byte_at q.file i < 256) (e : posed ≡ Ok links) where
    pub ready_posed : Posed q
    unfolding turned_answer turned_row
    ready_posed = answer_posed q bytes (sym j.judges.turned_is ∙ ap turned_answer e)

    pub ready_taken : Taken q.file links
    ready_taken = taken_posed q ready_posed (IfOk-at_ok _ e j.judges.links_is)

    pub area_filled_lem : after ≡ filled (network_of q.file) area
    unfolding area_posed
    area_filled_lem = j.area_is ∙ ap (λ (t : Result Links Refusal). area_posed t (network_loaded q.file) area) e ∙ ap (λ (net : _). filled net area) (accepted_loaded q.file ready_posed.file)

-- A table that is lent is before and after as if it were filled: unless the question is turned away it holds the distances, so that a fill
-- would change nothing.
pub poses_table : {q : Question} {posed : Result Links Refusal} → Judges q posed → HasInput q a_table → ((i : ℕ) → byte_at q.file i < 256) → q.cells ≡ length q.table →
    Poses q posed q.table q.table
unfolding area_posed turned_answer turned_row network_asked
poses_table {q} {posed} j has bytes count = record { judges = j; cells_are = count; area_is = go posed refl }
  where
    go : (t : Result Links Refusal) → posed ≡ t → q.table ≡ area_posed posed (network_loaded q.file) q.table
    go (Err x) e = sym (ap (λ (t : Result Links Refusal). area_posed t (network_loaded q.file) q.table) e)
    go (Ok links) e =
        let p = answer_posed q bytes (sym j.turned_is ∙ ap turned_answer e) in
        metric.area_filled_lem (network_of q.file) q.table (p.table has).enough (p.table has).each
        ∙ sym (ap (λ (net : _). filled net q.table) (accepted_loaded q.file p.file))
        ∙ sym (ap (λ (t : Result Links Refusal). area_posed t (network_loaded q.file) q.table) e)
