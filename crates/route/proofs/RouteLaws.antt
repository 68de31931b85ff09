-- The route call beside the prefix repair question, where no row before 14 applies: answers without a pair are passed on and write
-- nothing; and where there is a pair, the route that the choice bytes name is written.
-- Assumes nothing.
use Prim.Native.Nat.{ℕ}
use mathlib.Core.Path.{◌≡◌, refl, sym, ap, ◌∙◌}
use mathlib.Core.List.{List}
use native.Mathlib.Omega.{arith}
use lib.ListN.{length}
use Rattle.lfa.specs.Repair.{Told, Outcome, prefix_unreachable, prefix_untouched, none_serves, serving}
use Rattle.lfa.specs.Question.{Question, Source, route, prefix_found}
use Rattle.lfa.specs.Refusal.{Row, Decided, decided, Posed}
use Rattle.lfa.specs.Answer.{Answer, repair, refusal, repair_answer, route_answer, route_for, route_played, computed, answer_to, route_after}
use Rattle.lfa.proofs.Laws.Asked.{posed_route}
use Rattle.lfa.proofs.Laws.Replies.{computes}
use Rattle.std.specs.Prelude.{Result, Ok, Err}
use Rattle.question.specs.declared.Refusal.{Refusal}
use Rattle.question.specs.Turning.{row_of, refusal_answer}
use Rattle.answers.specs.Answer.{repair_of}
use Rattle.order.specs.declared.Pair.{Pair}
use Rattle.search.specs.declared.Repair.{Repair}
use Rattle.search.specs.declared.Repair.TheVariants as answer
use Rattle.route.specs.Answer.{passed_on}

-- ---- answers

-- an answer that is passed on has no pair
never_refusal : {A : Type 0} {t : Told} (d : Decided Row) → refusal d ≡ repair t → A
unfolding refusal
never_refusal (decided r v) e = absurd (let z : ◌≡◌ {A = ℕ} 0 1 = cc in omega arith)

never_passed : {A : Type 0} {t : Told} (r : Result Repair Refusal) → passed_on r ≡ repair t → A
unfolding passed_on refusal_answer
never_passed (Err x) e = never_refusal (row_of x) e
never_passed (Ok answer.Unreachable) e = absurd (let z : ◌≡◌ {A = ℕ} 0 1 = cc in omega arith)
never_passed (Ok answer.Untouched) e = absurd (let z : ◌≡◌ {A = ℕ} 0 1 = cc in omega arith)
never_passed (Ok (answer.Pair p)) e = absurd (let z : ◌≡◌ {A = ℕ} 0 1 = cc in omega arith)

-- an answer without a pair is passed on as it is
pub not_pair : (r : Result Repair Refusal) → ((p : Pair) → r ≡ Ok (answer.Pair p) → ⊥) → passed_on r ≡ repair_of r
unfolding passed_on repair_of
not_pair (Err x) f = refl
not_pair (Ok answer.Unreachable) f = refl
not_pair (Ok answer.Untouched) f = refl
not_pair (Ok (answer.Pair p)) f = absurd (f p refl)

-- ---- a route question that no row before 14 turns away: what the search finds for the prefix repair

-- An answer without a pair is passed on, and writes nothing.
pub passed : (q : Question) → Posed q → {from : Source} → q.call ≡ route from → (r : Result Repair Refusal) → repair_of r ≡ repair_answer (prefix_found q) → passed_on r ≡ repair_of r →
    (passed_on r ≡ answer_to q) × ((lent : List ℕ) → lent ≡ route_after q lent)
unfolding repair_answer route_answer computed route_played route_for
passed q s c r a n = found (prefix_found q) refl
  where
    told : Outcome → Answer
    told o = route_answer o (length (route_played q))

    found : (o : Outcome) → prefix_found q ≡ o → (passed_on r ≡ answer_to q) × ((lent : List ℕ) → lent ≡ route_after q lent)
    found prefix_unreachable f = (n ∙ a ∙ ap repair_answer f ∙ sym (computes q s c ∙ ap told f), λ lent. sym (posed_route q s c lent ∙ rw f))
    found prefix_untouched f = (n ∙ a ∙ ap repair_answer f ∙ sym (computes q s c ∙ ap told f), λ lent. sym (posed_route q s c lent ∙ rw f))
    found none_serves f = (n ∙ a ∙ ap repair_answer f ∙ sym (computes q s c ∙ ap told f), λ lent. sym (posed_route q s c lent ∙ rw f))
    found (serving t) f = never_passed {t = t} r (n ∙ a ∙ ap repair_answer f)
