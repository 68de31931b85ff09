-- Questions that no row before 14 turns away: each is answered with what its call computes, the work area holds the distances, and the
-- route buffer the route.
-- Assumes nothing.
use Rattle.std.specs.Prelude.{ℕ, ◌≡◌, refl, List, [], ◌∷◌, ◌++◌, length, drop}
use Rattle.std.proofs.Common.{sym, ◌∙◌, arith}
use Rattle.std.proofs.Math.Path.{subst}
use Rattle.std.proofs.Math.Option.{Option, none, some}
use Rattle.lfa.specs.Lists.{select}
use Rattle.lfa.specs.Distance.{filled}
use Rattle.lfa.specs.Repair.{Told, Outcome, prefix_unreachable, prefix_untouched, none_serves, serving}
use Rattle.lfa.specs.Question.{Question, Source, Call, load, fill, space, link_repair, prefix_repair, route, network_asked, link_found, prefix_found, searched, if_none}
use Rattle.lfa.specs.Refusal.{early, no_pair, leaves_route, entry_of, early_rows, question_rows, tries, decided, first_row, returned, refusal_of, Posed}
use Rattle.lfa.specs.Answer.{refused, repair, refusal, repair_answer, route_answer, route_for, route_played, computed, answer_to, written_to, leave, exit_by, exit_of, work_after, route_after}
use Rattle.lfa.proofs.Laws.Rows.{nothing, also, none_apply, passed_over}
use Rattle.lfa.proofs.Laws.FileRows.{loaded_rows, accepted_passes_rows}
use Rattle.lfa.proofs.Laws.Answers.{searches}
use Rattle.lfa.proofs.Laws.Causes.{returns_none}
use Rattle.lfa.proofs.Laws.PosedWhen.{posed_passes}

-- ---- the rows

-- only row 14 is left
only_last : (q : Question) → Posed q → refusal_of q ≡ first_row (returned q) (select (tries q.call) (no_pair ∷ []))
unfolding question_rows
only_last q p =
    loaded_rows q (accepted_passes_rows q.file p.file)
    ∙ passed_over (returned q) (tries q.call) (no_pair ∷ []) (none_apply (returned q) (tries q.call) early early_rows (λ r m t. returns_none q (early r) (λ v. posed_passes q p r v t)))

-- the row applies exactly where the search finds no pair
pub data Searched (q : Question) : Type 0 where
  none_serves_lem : searched q q.call ≡ some none_serves → refusal_of q ≡ some (decided no_pair 0) → Searched q
  not_refused : (searched q q.call ≡ some none_serves → ⊥) → refusal_of q ≡ none → Searched q

pub last_row : (q : Question) → Posed q → Searched q
unfolding returned if_none first_row select tries entry_of
last_row q p = go (searched q q.call) refl
  where
    other : (searched q q.call ≡ some none_serves → ⊥) → if_none (searched q q.call) 0 ≡ none → Searched q
    other n e = not_refused n (only_last q p ∙ passed_over (returned q) (tries q.call) [] (also {r = no_pair} {rows = []} (λ h. e) nothing))

    go : (o : Option Outcome) → searched q q.call ≡ o → Searched q
    go none s = other (λ t. let e = sym s ∙ t in absurd (let z : ◌≡◌ {A = ℕ} 0 1 = cc in omega arith)) (rw s)
    go (some prefix_unreachable) s = other (λ t. let e = sym s ∙ t in absurd (let z : ◌≡◌ {A = ℕ} 0 1 = cc in omega arith)) (rw s)
    go (some prefix_untouched) s = other (λ t. let e = sym s ∙ t in absurd (let z : ◌≡◌ {A = ℕ} 0 1 = cc in omega arith)) (rw s)
    go (some none_serves) s = none_serves_lem s (only_last q p ∙ rw (searches q q.call none_serves s) (rw (s, first_row)))
    go (some (serving p)) s = other (λ t. let e = sym s ∙ t in absurd (let z : ◌≡◌ {A = ℕ} 0 1 = cc in omega arith)) (rw s)

-- ---- the answers

-- where no pair serves, the call computes refusal 14
computes_none : (q : Question) (c : Call) → searched q c ≡ some none_serves → computed q c ≡ refused (entry_of no_pair).number 0
unfolding searched computed repair_answer route_answer
computes_none q load e = cc
computes_none q fill e = cc
computes_none q (space s) e = cc
computes_none q (link_repair from) e = let f : link_found q ≡ none_serves = cc in rw f
computes_none q (prefix_repair from) e = let f : prefix_found q ≡ none_serves = cc in rw f
computes_none q (route from) e = let f : prefix_found q ≡ none_serves = cc in rw f

module _ (q : Question) (p : Posed q) where
  -- Such a question is answered with what its call computes, 14 among it.
  pub posed_answer : answer_to q ≡ computed q q.call
  unfolding answer_to refusal
  posed_answer = go (last_row q p)
    where
      go : Searched q → answer_to q ≡ computed q q.call
      go (none_serves_lem s r) = rw (r, answer_to) (sym (computes_none q q.call s))
      go (not_refused s r) = rw (r, answer_to)

  -- The work area holds the distances, whatever is found.
  pub posed_work : (area : List ℕ) → work_after q area ≡ filled (network_asked q) area
  unfolding exit_of exit_by written_to entry_of leaves_route leave
  posed_work area = go (last_row q p)
    where
      go : Searched q → work_after q area ≡ filled (network_asked q) area
      go (none_serves_lem s r) = rw r
      go (not_refused s r) = rw r

  -- The route buffer holds the routers of the route, of which there are none where there is no pair.
  pub posed_route : {from : Source} → q.call ≡ route from → (buffer : List ℕ) → route_after q buffer ≡ route_played q ++ drop (length (route_played q)) buffer
  unfolding exit_of exit_by written_to entry_of leaves_route leave route_played route_for searched
  posed_route {from} c buffer = go (last_row q p)
    where
      found : searched q q.call ≡ some none_serves → prefix_found q ≡ none_serves
      found s = let t : searched q (route from) ≡ some none_serves = subst (λ (d : Call). searched q d ≡ some none_serves) c s in cc

      go : Searched q → route_after q buffer ≡ route_played q ++ drop (length (route_played q)) buffer
      go (none_serves_lem s r) = rw (r) (rw (found s))
      go (not_refused s r) = rw r

-- a repair is answered exactly where a pair was chosen
pub answer_chosen : (o : Outcome) (t : Told) → repair_answer o ≡ repair t → o ≡ serving t
unfolding repair_answer
answer_chosen prefix_unreachable t e = cc
answer_chosen prefix_untouched t e = cc
answer_chosen none_serves t e = cc
answer_chosen (serving s) t e = cc
