-- What is told of a question whose numbers were put together beforehand, and the answer by what the rows before 14 decide.
-- Assumes nothing.
use Rattle.std.specs.Prelude.{ℕ, ◌≡◌, List, Result, Ok, Err}
use Rattle.std.proofs.Common.{sym, ap, subst, ◌∙◌}
use Rattle.lfa.specs.File.{Bytes}
use Rattle.lfa.specs.Space.{Space, p_space}
use Rattle.lfa.specs.Ranks.{is_arrangement}
use Rattle.lfa.specs.Repair.{Outcome}
use Rattle.lfa.specs.Answer.{Answer, repair_answer}
use Rattle.metric.specs.declared.columns.Links.{Links}
use Rattle.rows.specs.declared.Asked.{Asked}
use Rattle.rows.specs.declared.Cells.{Cells}
use Rattle.rows.specs.Rows.{question_about}
use Rattle.question.specs.declared.Refusal.{Refusal}
use Rattle.question.specs.Turning.{refusal_answer, Judges, Poses}
use Rattle.repair.specs.Told.{told_by}

-- ---- the numbers

module _ (b : Bytes) (cells : Cells) (table choices ranks : List ℕ) {asked numbers : Asked} (e : asked ≡ numbers) (good : is_arrangement ranks ≡ numbers.ranked) where
  same_ranked : is_arrangement ranks ≡ asked.ranked
  same_ranked = good ∙ sym (ap (λ (a : Asked). a.ranked) e)

  pub judges_numbers : {posed : Result Links Refusal} → ((s : Space) (choices ranks : List ℕ) → is_arrangement ranks ≡ asked.ranked → Judges (question_about b cells table asked s choices ranks) posed) →
      Judges (question_about b cells table numbers p_space choices ranks) posed
  judges_numbers {posed} told = subst (λ (a : Asked). Judges (question_about b cells table a p_space choices ranks) posed) e (told p_space choices ranks same_ranked)

  pub poses_numbers : {posed : Result Links Refusal} {area after : List ℕ} → ((s : Space) (choices ranks : List ℕ) → is_arrangement ranks ≡ asked.ranked → Poses (question_about b cells table asked s choices ranks) posed area after) →
      Poses (question_about b cells table numbers p_space choices ranks) posed area after
  poses_numbers {posed} {area} {after} told = subst (λ (a : Asked). Poses (question_about b cells table a p_space choices ranks) posed area after) e (told p_space choices ranks same_ranked)

-- ---- the answer

-- a refusal is passed on ..
pub told_refused : {posed : Result Links Refusal} {x : Refusal} (found : Outcome) → posed ≡ Err x → refusal_answer x ≡ told_by posed found
unfolding told_by
told_refused found e = sym (ap (λ (t : Result Links Refusal). told_by t found) e)

-- .. and else what is found is answered
pub told_ready : {posed : Result Links Refusal} {links : Links} (found : Outcome) → posed ≡ Ok links → {answer : Answer} → answer ≡ repair_answer found → answer ≡ told_by posed found
unfolding told_by
told_ready found e a = a ∙ sym (ap (λ (t : Result Links Refusal). told_by t found) e)
