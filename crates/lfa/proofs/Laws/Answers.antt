-- Every answer is the table's: the row that decides is the refusal given, nothing else is refused, and each buffer is left as the
-- table says. Nothing is asked of the question.
-- Assumes nothing.
use Rattle.std.specs.Prelude.{ℕ, ◌≡◌, refl, true, length}
use Rattle.std.proofs.Common.{ap, ◌∙◌, arith}
use Rattle.std.proofs.Math.Option.{Option, none, some}
use mathlib.Core.List.{List, Memᴰ}
use Rattle.lfa.specs.Lists.{member_of, any_of}
use Rattle.lfa.specs.Repair.{Outcome, prefix_unreachable, prefix_untouched, none_serves, serving}
use Rattle.lfa.specs.Question.{Question, Call, load, fill, space, link_repair, prefix_repair, route, Buffer, searching, inputs_of, input_number, has_input, link_found, prefix_found, searched, if_none}
use Rattle.lfa.specs.Refusal.{Row, no_pair, Applies, returned, entry_of, rows_tried, Decides, Decided, decided, refusal_of}
use Rattle.lfa.specs.Answer.{Answer, refused, refusal, repair_answer, route_answer, route_played, computed, answer_to, written_to, leave, exit_by, exit_of}
use Rattle.lfa.proofs.Laws.Rows.{none_decides, none_applies}
use Rattle.lfa.proofs.Laws.FileRows.{tried_rows}
use Rattle.lfa.proofs.Laws.Causes.{returns_none, decides_found, found_decides}

-- ---- the row that decides

module _ (q : Question) (r : Row) (v : ℕ) (f : Decides q r v) where
  pub refusal_given : answer_to q ≡ refused (entry_of r).number v
  unfolding answer_to refusal
  refusal_given = rw (decides_found q r v f, answer_to)

  pub row_leaves : (x : Buffer) (before : List ℕ) → exit_of q x before ≡ leave ((entry_of r).left x) before (written_to q x before)
  unfolding exit_of exit_by
  row_leaves x before = rw (decides_found q r v f)

-- ---- no row applies

pub no_row_leaves : (q : Question) → ((r : Row) (v : ℕ) → Memᴰ r (rows_tried q.call) → Applies q r v → ⊥) → (x : Buffer) (before : List ℕ) → exit_of q x before ≡ written_to q x before
unfolding exit_of exit_by refusal_of
no_row_leaves q h x before = rw (none_applies (returned q) (rows_tried q.call) (λ r m. returns_none q r (λ v. h r v m)))

-- the call answers what it computes
pub no_row_computes : (q : Question) → ((r : Row) (v : ℕ) → Memᴰ r (rows_tried q.call) → Applies q r v → ⊥) → answer_to q ≡ computed q q.call
unfolding answer_to refusal_of
no_row_computes q h = rw (none_applies (returned q) (rows_tried q.call) (λ r m. returns_none q r (λ v. h r v m)), answer_to)

-- ---- nothing else is refused

-- an outcome that is answered with a refusal is that no pair serves
repair_refused : (o : Outcome) (k v : ℕ) → repair_answer o ≡ refused k v → o ≡ none_serves
unfolding repair_answer
repair_refused prefix_unreachable k v e = cc
repair_refused prefix_untouched k v e = cc
repair_refused none_serves k v e = refl
repair_refused (serving t) k v e = cc

route_refused : (o : Outcome) (count k v : ℕ) → route_answer o count ≡ refused k v → o ≡ none_serves
unfolding route_answer
route_refused prefix_unreachable count k v e = cc
route_refused prefix_untouched count k v e = cc
route_refused none_serves count k v e = refl
route_refused (serving t) count k v e = cc

-- a call that searches tries row 14
pub searches : (q : Question) (c : Call) (o : Outcome) → searched q c ≡ some o → has_input c searching ≡ true
unfolding searched has_input inputs_of input_number member_of any_of
searches q load o e = cc
searches q fill o e = cc
searches q (space s) o e = cc
searches q (link_repair from) o e = refl
searches q (prefix_repair from) o e = refl
searches q (route from) o e = refl

-- a call that nothing turns away does not answer with a refusal
not_refused : (q : Question) (k v : ℕ) → refusal_of q ≡ none → computed q q.call ≡ refused k v → ⊥
unfolding computed refusal_of returned searched if_none entry_of
not_refused q k v r e = go q.call refl e
  where
    clash : {A : Type 0} → returned q no_pair ≡ none → returned q no_pair ≡ some 0 → A
    clash a b = absurd (let z : ◌≡◌ {A = ℕ} 0 1 = cc in omega arith)

    tries_last : {c : Call} → q.call ≡ c → has_input c searching ≡ true → has_input q.call (entry_of no_pair).input ≡ true
    tries_last p h = ap (λ c. has_input c searching) p ∙ h

    -- where the search finds none, row 14 applies
    served : (c : Call) (o : Outcome) → q.call ≡ c → searched q c ≡ some o → o ≡ none_serves → ⊥
    served c o p s n =
        clash (none_decides (returned q) (rows_tried q.call) r no_pair ((tried_rows q.call no_pair).1 (tries_last p (searches q c o s))))
        (ap (λ c. if_none (searched q c) 0) p ∙ ap (λ s. if_none s 0) s ∙ ap (λ o. if_none (some o) 0) n)

    go : (c : Call) → q.call ≡ c → computed q c ≡ refused k v → ⊥
    go load p e = let z : ◌≡◌ {A = ℕ} 0 1 = cc in omega arith
    go fill p e = let z : ◌≡◌ {A = ℕ} 0 1 = cc in omega arith
    go (space s) p e = let z : ◌≡◌ {A = ℕ} 0 1 = cc in omega arith
    go (link_repair from) p e = served (link_repair from) (link_found q) p refl (repair_refused (link_found q) k v e)
    go (prefix_repair from) p e = served (prefix_repair from) (prefix_found q) p refl (repair_refused (prefix_found q) k v e)
    go (route from) p e = served (route from) (prefix_found q) p refl (route_refused (prefix_found q) (length (route_played q)) k v e)

pub refusal_stated : (q : Question) (k v : ℕ) → answer_to q ≡ refused k v → (r : Row) × ((entry_of r).number ≡ k) × Decides q r v
unfolding answer_to refusal
refusal_stated q k v e = go (refusal_of q) refl e
  where
    go : (o : Option (Decided Row)) → refusal_of q ≡ o → ◌≡◌ {A = Answer} (elim o as (λ _. Answer) [ some r ↦ refusal r | none ↦ computed q q.call ]) (refused k v) →
        (r : Row) × ((entry_of r).number ≡ k) × Decides q r v
    go none p e = absurd (not_refused q k v p e)
    go (some (decided r w)) p e =
        let k-is : (entry_of r).number ≡ k = cc in
        let w-is : w ≡ v = cc in
        (r, k-is, found_decides q r v (rw w-is at p))
