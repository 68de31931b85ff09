-- Questions that a row before 14 turns away: the answer is the row's, and each lent buffer is left as it was. Where no such row decides,
-- none applies.
-- Assumes nothing.
use Rattle.std.specs.Prelude.{ℕ, ◌<◌, Bool, true, false}
use Rattle.std.proofs.Math.Path.{◌≡◌, refl, subst}
use Rattle.std.proofs.Common.{sym, ap, ◌∙◌, arith}
use Rattle.std.proofs.Math.Option.{Option, none, some}
use mathlib.Core.List.{List, [], ◌∷◌, ◌++◌, map, map-append, Memᴰ}
use Rattle.lfa.specs.Lists.{select, keep_if}
use Rattle.lfa.specs.File.{Bytes, byte_at, routers_of, links_of, prefixes_of}
use Rattle.lfa.specs.Question.{Question, Buffer, work_area, route_buffer, loading, network_asked}
use Rattle.lfa.specs.Distance.{holds_distances}
use Rattle.lfa.specs.Refusal.{FileRow, EarlyRow, EarlyApplies, Row, of_file, early, no_pair, as_lent, leaves_all, early_number, entry_of, early_rows, question_rows, tries, tries_early, returned, Decided, decided, first_row, in_file, in_early, or_later, early_refusal, file_refusal, refusal_of, Posed, sized_returned}
use Rattle.lfa.specs.Answer.{Answer, refused, accepted, refusal, early_answer, computed, answer_to, leave, exit_by, exit_of, work_after, route_after}
use Rattle.lfa.proofs.Laws.List.{select_make}
use Rattle.lfa.proofs.Laws.Rows.{none_decides, none_apply, still_decides, decides_after}
use Rattle.lfa.proofs.Laws.FileRows.{early_listed, loaded_rows, load_passes, refused_file, load_accepted}
use Rattle.lfa.proofs.Laws.Causes.{row_applies, returns_none, never_applies}
use Rattle.lfa.proofs.Laws.PosedWhen.{passes_posed}

-- a question that is turned away with this answer, its buffers left as they were
pub record TurnedAway (q : Question) (answer : Answer) : Type 0 where
  pub answered : answer_to q ≡ answer
  pub area_left : (area : List ℕ) → work_after q area ≡ area
  pub buffer_left : (buffer : List ℕ) → route_after q buffer ≡ buffer

-- a row that leaves all lent bytes
abbrev LeavesAll : Row → Type 0
LeavesAll r = (x : Buffer) → (entry_of r).left x ≡ as_lent

leaves_all_lem : (x : Buffer) → leaves_all x ≡ as_lent
unfolding leaves_all
leaves_all_lem x = refl

module _ (q : Question) (r : Row) (v : ℕ) where
  turned_away : refusal_of q ≡ some (decided r v) → LeavesAll r → TurnedAway q (refused (entry_of r).number v)
  unfolding answer_to refusal exit_of exit_by leave
  turned_away e l = record {
    answered = rw (e, answer_to);
    area_left = λ area. rw (e, l work_area);
    buffer_left = λ buffer. rw (e, l route_buffer);
  }

-- ---- by a row of the file

-- what `load` answers to the row that turns its file away, if any does
unfoldable pub load_answer : Option (Decided FileRow) → Answer
load_answer none = accepted
load_answer (some d) = refusal (in_file d)

pub load_answer_lem : (b : Bytes) → answer_to (loading b) ≡ load_answer (file_refusal b)
unfolding answer_to load_answer computed loading
load_answer_lem b = go (file_refusal b) refl
  where
    go : (o : Option (Decided FileRow)) → file_refusal b ≡ o → answer_to (loading b) ≡ load_answer o
    go none p = rw (load_passes b p, answer_to)
    go (some d) p = rw (refused_file (loading b) d p, answer_to)

-- what turns a file away turns every question about it away, with the same number and value
pub file_turned_away : (q : Question) (d : Decided FileRow) → file_refusal q.file ≡ some d → TurnedAway q (refusal (in_file d))
unfolding refusal in_file entry_of
file_turned_away q (decided r v) e = turned_away q (of_file r) v (refused_file q (decided r v) e) leaves_all_lem

-- where `load` answers with no refusal, no row turns the file away
pub load_accepts : (b : Bytes) → answer_to (loading b) ≡ accepted → file_refusal b ≡ none
unfolding load_answer refusal in_file
load_accepts b e = go (file_refusal b) refl (sym (load_answer_lem b) ∙ e)
  where
    go : (o : Option (Decided FileRow)) → file_refusal b ≡ o → load_answer o ≡ accepted → file_refusal b ≡ none
    go none p e = p
    go (some (decided r v)) p e = cc

-- ---- by a row of the question that is tried before anything is searched for

-- what the early rows return of a question
abbrev EarlyReturned : Question → EarlyRow → Option ℕ
EarlyReturned q = sized_returned (routers_of q.file) (links_of q.file) (prefixes_of q.file) (holds_distances (network_asked q) q.table) q

-- among the rows of the table the early rows decide as they do among themselves
early_decides : (q : Question) (rows : List EarlyRow) → first_row (returned q) (select (tries q.call) (map early rows)) ≡ in_early (first_row (EarlyReturned q) (select (tries_early q.call) rows))
unfolding select first_row returned in_early
early_decides q [] = refl
early_decides q (r ∷ rows) = go (tries_early q.call r) (early_decides q rows)
  where
    here : (o : Option ℕ) → first_row (returned q) (select (tries q.call) (map early rows)) ≡ in_early (first_row (EarlyReturned q) (select (tries_early q.call) rows)) →
        ◌≡◌ {A = Option (Decided Row)} (elim o as (λ _. Option (Decided Row)) [ some v ↦ some (decided (early r) v) | none ↦ first_row (returned q) (select (tries q.call) (map early rows)) ])
        (in_early (elim o as (λ _. Option (Decided EarlyRow)) [ some v ↦ some (decided r v) | none ↦ first_row (EarlyReturned q) (select (tries_early q.call) rows) ]))
    here (some v) e = refl
    here none e = e

    go : (b : Bool) → first_row (returned q) (select (tries q.call) (map early rows)) ≡ in_early (first_row (EarlyReturned q) (select (tries_early q.call) rows)) →
        first_row (returned q) (keep_if b (early r) (select (tries q.call) (map early rows))) ≡ in_early (first_row (EarlyReturned q) (keep_if b r (select (tries_early q.call) rows)))
    go true e = here (EarlyReturned q r) e
    go false e = e

-- What is refused early is refused: the row decides among all rows too, and leaves all lent bytes.
pub early_turned_away : (q : Question) (d : Decided Row) → early_refusal q ≡ some d → TurnedAway q (refusal d)
unfolding early_refusal or_later in_early refusal question_rows entry_of
early_turned_away q d e = go (file_refusal q.file) refl e
  where
    by : (o : Option (Decided EarlyRow)) → file_refusal q.file ≡ none → first_row (returned q) (select (tries q.call) (map early early_rows)) ≡ some d → in_early o ≡ some d → TurnedAway q (refusal d)
    by none p e f = absurd (let z : ◌≡◌ {A = ℕ} 0 1 = cc in omega arith)
    by (some (decided r v)) p e f =
        let same : decided (early r) v ≡ d = cc in
        subst (λ (d : Decided Row). TurnedAway q (refusal d)) same
        (turned_away q (early r) v (loaded_rows q p ∙ still_decides (returned q) (tries q.call) (map early early_rows) (no_pair ∷ []) (decided (early r) v) (e ∙ ap some (sym same))) leaves_all_lem)

    go : (o : Option (Decided FileRow)) → file_refusal q.file ≡ o → or_later o (first_row (returned q) (select (tries q.call) (map early early_rows))) ≡ some d → TurnedAway q (refusal d)
    go (some f) p e = let same : in_file f ≡ d = cc in subst (λ (d : Decided Row). TurnedAway q (refusal d)) same (file_turned_away q f p)
    go none p e = by (first_row (EarlyReturned q) (select (tries_early q.call) early_rows)) p e (sym (early_decides q early_rows) ∙ e)

-- An early row is the answer where it applies, and no row of the file and no earlier one does.
pub early_given : (q : Question) (before after : List EarlyRow) (r : EarlyRow) (v : ℕ) → early_rows ≡ before ++ r ∷ after → file_refusal q.file ≡ none →
    ((s : EarlyRow) (w : ℕ) → Memᴰ s before → tries_early q.call s ≡ true → EarlyApplies q s w → ⊥) → tries_early q.call r ≡ true → EarlyApplies q r v → answer_to q ≡ refused (early_number r) v
unfolding early_refusal or_later refusal entry_of
early_given q before after r v order loaded passed t a =
    let none_before = none_apply (returned q) (tries q.call) early before (λ s m u. returns_none q (early s) (λ w. passed s w m u)) in
    let decides : early_refusal q ≡ some (decided (early r) v) =
    rw (loaded, order, map-append early before (r ∷ after)) (decides_after (returned q) (tries q.call) (map early after) (early r) v none_before t ((row_applies q (early r) v).1 a)) in
    (early_turned_away q (decided (early r) v) decides).answered

-- Where nothing is refused early, no row before 14 applies.
pub early_posed : (q : Question) → ((i : ℕ) → byte_at q.file i < 256) → early_refusal q ≡ none → Posed q
unfolding early_refusal or_later
early_posed q bytes e = go (file_refusal q.file) refl e
  where
    go : (o : Option (Decided FileRow)) → file_refusal q.file ≡ o → or_later o (first_row (returned q) (select (tries q.call) (map early early_rows))) ≡ none → Posed q
    go (some f) p e = absurd (let z : ◌≡◌ {A = ℕ} 0 1 = cc in omega arith)
    go none p e =
        passes_posed q (load_accepted q.file bytes p)
        (λ r v t. never_applies q (early r) v (none_decides (returned q) (select (tries q.call) (map early early_rows)) e (early r) (select_make (tries q.call) (early_listed r) t)))

-- ---- the same of the early answer

module _ (q : Question) where
  pub answer_turned_away : (a : Answer) → early_answer q ≡ some a → TurnedAway q a
  unfolding early_answer
  answer_turned_away a e = go (early_refusal q) refl e
    where
      go : (o : Option (Decided Row)) → early_refusal q ≡ o → ◌≡◌ {A = Option Answer} (elim o as (λ _. Option Answer) [ some d ↦ some (refusal d) | none ↦ none ]) (some a) → TurnedAway q a
      go none p e = absurd (let z : ◌≡◌ {A = ℕ} 0 1 = cc in omega arith)
      go (some d) p e = let same : refusal d ≡ a = cc in subst (TurnedAway q) same (early_turned_away q d p)

  pub answer_posed : ((i : ℕ) → byte_at q.file i < 256) → early_answer q ≡ none → Posed q
  unfolding early_answer
  answer_posed bytes e = go (early_refusal q) refl e
    where
      go : (o : Option (Decided Row)) → early_refusal q ≡ o → ◌≡◌ {A = Option Answer} (elim o as (λ _. Option Answer) [ some d ↦ some (refusal d) | none ↦ none ]) none → Posed q
      go none p e = early_posed q bytes p
      go (some d) p e = absurd (let z : ◌≡◌ {A = ℕ} 0 1 = cc in omega arith)

  -- what `load` refuses is refused early, and where it refuses nothing, the rows of the question decide
  pub load_early : (d : Decided FileRow) → answer_to (loading q.file) ≡ refusal (in_file d) → some (refusal (in_file d)) ≡ early_answer q
  unfolding early_answer early_refusal or_later load_answer refusal in_file
  load_early (decided r v) e = go (file_refusal q.file) refl (sym (load_answer_lem q.file) ∙ e)
    where
      go : (o : Option (Decided FileRow)) → file_refusal q.file ≡ o → load_answer o ≡ refusal (in_file (decided r v)) → some (refusal (in_file (decided r v))) ≡ early_answer q
      go none p e = absurd (let z : ◌≡◌ {A = ℕ} 0 1 = cc in omega arith)
      go (some d) p e = rw (p, early_answer) (ap some (sym e))

  pub loaded_early : answer_to (loading q.file) ≡ accepted → early_refusal q ≡ in_early (first_row (EarlyReturned q) (select (tries_early q.call) early_rows))
  unfolding early_refusal or_later
  loaded_early e = rw (load_accepts q.file e) (early_decides q early_rows)
