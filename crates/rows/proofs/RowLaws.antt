-- Rows in order: each decides where it is tried and its test does not pass, and else the later ones do.
-- Assumes nothing.
use Rattle.std.proofs.lemmas.Bool.{true≢false}
use Rattle.std.proofs.Common.{◌≡◌, ℕ, Bool, true, false, List, [], ◌∷◌, refl, sym, ap, ◌∙◌}
use Rattle.std.proofs.Math.Option.{Option, some}
use Rattle.std.specs.Prelude.{Result, Ok, Err, ⊤}
use Rattle.std.specs.Result.{result_and}
use Rattle.lfa.specs.Lists.{unless, select}
use Rattle.lfa.specs.Refusal.{EarlyRow, decided, first_row}
use Rattle.lfa.specs.Space as space
use Rattle.lfa.specs.Question.{a_table, has_input}
use Rattle.rows.specs.declared.Row.{Row}
use Rattle.rows.specs.declared.Call.{Call}
use Rattle.rows.specs.declared.Cells.{Cells}
use Rattle.rows.specs.declared.Cells.TheVariants.{Work, Table}
use Rattle.rows.specs.Rows.{given_in, right_in, call_of, row_unless, row_decided}
use Rattle.rows.specs.Laws.{has_no_table}

-- the first of six that is refused, tried one after the other
six_grouped : {E : Type 0} (a b c d e f : Result ⊤ E) → result_and (result_and (result_and (result_and (result_and a b) c) d) e) f ≡ result_and a (result_and b (result_and c (result_and d (result_and e (result_and f (Ok tt))))))
six_grouped (Err x) b c d e f = refl
six_grouped (Ok t) (Err x) c d e f = refl
six_grouped (Ok t) (Ok u) (Err x) d e f = refl
six_grouped (Ok t) (Ok u) (Ok v) (Err x) e f = refl
six_grouped (Ok t) (Ok u) (Ok v) (Ok w) (Err x) f = refl
six_grouped (Ok t) (Ok u) (Ok v) (Ok w) (Ok x) (Err y) = refl
six_grouped (Ok t) (Ok u) (Ok v) (Ok w) (Ok x) (Ok y) = refl

pub six_tried : {E : Type 0} (a b c d e f : Result ⊤ E) {two three four five all : Result ⊤ E} → two ≡ result_and a b → three ≡ result_and two c → four ≡ result_and three d → five ≡ result_and four e → all ≡ result_and five f →
    all ≡ result_and a (result_and b (result_and c (result_and d (result_and e (result_and f (Ok tt))))))
six_tried a b c d e f p q r s t = rw (t, s, r, q, p) (six_grouped a b c d e f)

-- what is found of a list of rows, row by row: `goes` says whether the row is tried, and it returns v unless its test passes
pub data Found (value : EarlyRow → Option ℕ) (tried : EarlyRow → Bool) : Result ⊤ Row → List EarlyRow → Type 0 where
  no_row : {t : ⊤} → Found value tried (Ok t) []
  row_before : {r : EarlyRow} {v : ℕ} {rows : List EarlyRow} {later found : Result ⊤ Row} (goes passes : Bool) (row : Row) → found ≡ row_unless goes passes row → goes ≡ tried r →
      (goes ≡ true → unless passes v ≡ value r) → row_decided (Err row) ≡ some (decided r v) → Found value tried later rows → Found value tried (result_and found later) (r ∷ rows)

module _ (value : EarlyRow → Option ℕ) (tried : EarlyRow → Bool) where
  -- What is found is the first row that is tried and applies. A row that is not tried or whose test passes is left out on both sides, so that
  -- the rows after it decide; any other decides itself.
  pub found_first : {found : Result ⊤ Row} {rows : List EarlyRow} → Found value tried found rows → row_decided found ≡ first_row value (select tried rows)
  unfolding select first_row row_decided unless
  found_first no_row = refl
  found_first (row_before {r} {v} {rows} {later} {found} goes passes row e t a d rest) = ap (λ (o : Result ⊤ Row). row_decided (result_and o later)) e ∙ go goes passes (sym t) a (found_first rest)
    where
      go : (goes passes : Bool) → tried r ≡ goes → (goes ≡ true → unless passes v ≡ value r) → row_decided later ≡ first_row value (select tried rows) →
          row_decided (result_and (row_unless goes passes row) later) ≡ first_row value (select tried (r ∷ rows))
      go true true t a f = f ∙ sym (rw (t) (rw (sym (a refl), first_row)))
      go true false t a f = d ∙ sym (rw (t) (rw (sym (a refl), first_row)))
      go false passes t a f = f ∙ sym (rw (t, select))

-- a call that is lent no table does not look at whether it is right
pub right_told : (cells : Cells) (call : Call) (s : space.Space) (right : Bool) {goes : Bool} → goes ≡ has_input (call_of call (given_in cells) s) a_table → goes ≡ true → right_in cells true ≡ right_in cells right
right_told (Table n r) call s right t g = refl
right_told (Work n) call s right t g = absurd (true≢false (sym g ∙ t ∙ has_no_table call s))
