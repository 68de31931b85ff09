-- Rows tried in order, for any rows: the first that applies decides, rows that do not apply or are not tried are passed over.
-- Assumes nothing.
use Rattle.std.specs.Prelude.{ℕ, ◌⊎◌, Bool}
use Rattle.std.proofs.Math.Path.{◌≡◌, refl, ap}
use Rattle.std.proofs.Common.{sym, ◌∙◌, inl, inr, arith}
use Rattle.std.proofs.Math.Bool.{true, false}
use Rattle.std.proofs.Math.Option.{Option, none, some}
use mathlib.Core.List.Memᴰ
use mathlib.Core.List.{List, [], ◌∷◌, ◌++◌, map, Memᴰ}
use Rattle.lfa.specs.Lists.{select, keep_if}
use Rattle.lfa.specs.Refusal.{Decided, decided, first_row}

-- ---- the first row that applies

-- row r is the first of a list that applies, with value v
pub record FirstFound {R : Type 0} (value : R → Option ℕ) (rows : List R) (r : R) (v : ℕ) : Type 0 where
  pub before : List R
  pub after : List R
  pub tried : rows ≡ before ++ r ∷ after
  pub passed : (s : R) → Memᴰ s before → value s ≡ none
  pub applies : value r ≡ some v

module _ {R : Type 0} (value : R → Option ℕ) where
  -- no row decides exactly when none applies
  pub none_decides : (rows : List R) → first_row value rows ≡ none → (r : R) → Memᴰ r rows → value r ≡ none
  unfolding first_row
  none_decides [] e r m = absurd (Memᴰ.not-nil m)
  none_decides (s ∷ rows) e r m = go (value s) refl e (none_decides rows) (Memᴰ.cases_cons m)
    where
      go : (o : Option ℕ) → value s ≡ o → ◌≡◌ {A = Option (Decided R)} (elim o as (λ _. Option (Decided R)) [ some v ↦ some (decided s v) | none ↦ first_row value rows ]) none →
          (first_row value rows ≡ none → (r : R) → Memᴰ r rows → value r ≡ none) → (r ≡ s) ⊎ Memᴰ r rows → value r ≡ none
      go (some v) p e rest c = cc
      go none p e rest (inl q) = ap value q ∙ p
      go none p e rest (inr m) = rest e r m

  pub none_applies : (rows : List R) → ((r : R) → Memᴰ r rows → value r ≡ none) → first_row value rows ≡ none
  unfolding first_row
  none_applies [] h = refl
  none_applies (s ∷ rows) h = rw (h s (Memᴰ.head refl), first_row) (none_applies rows (λ r m. h r (Memᴰ.tail m)))

  -- the row found is the first that applies ..
  pub first_found : (rows : List R) (r : R) (v : ℕ) → first_row value rows ≡ some (decided r v) → FirstFound value rows r v
  unfolding first_row
  first_found [] r v e = absurd (let z : ◌≡◌ {A = ℕ} 0 1 = cc in omega arith)
  first_found (s ∷ rows) r v e = go (value s) refl e (first_found rows r v)
    where
      more : value s ≡ none → FirstFound value rows r v → FirstFound value (s ∷ rows) r v
      more p f = record { before = s ∷ f.before; after = f.after; tried = ap (◌∷◌ s) f.tried; passed = λ t m. pass t (Memᴰ.cases_cons m); applies = f.applies }
        where
          pass : (t : R) → (t ≡ s) ⊎ Memᴰ t f.before → value t ≡ none
          pass t (inl q) = ap value q ∙ p
          pass t (inr m) = f.passed t m

      go : (o : Option ℕ) → value s ≡ o → ◌≡◌ {A = Option (Decided R)} (elim o as (λ _. Option (Decided R)) [ some v ↦ some (decided s v) | none ↦ first_row value rows ]) (some (decided r v)) →
          (first_row value rows ≡ some (decided r v) → FirstFound value rows r v) → FirstFound value (s ∷ rows) r v
      go (some w) p e rest =
          let q : s ≡ r = cc in
          let w-is : w ≡ v = cc in
          record { before = []; after = rows; tried = ap (λ t. t ∷ rows) q; passed = λ t m. absurd (Memᴰ.not-nil m); applies = ap value (sym q) ∙ p ∙ ap some w-is }
      go none p e rest = more p (rest e)

  -- .. and the first row that applies is found
  pub found_first : (before after : List R) (r : R) (v : ℕ) → ((s : R) → Memᴰ s before → value s ≡ none) → value r ≡ some v →
      first_row value (before ++ r ∷ after) ≡ some (decided r v)
  unfolding first_row
  found_first [] after r v h a = rw (a, first_row)
  found_first (s ∷ before) after r v h a = rw (h s (Memᴰ.head refl), first_row) (found_first before after r v (λ t m. h t (Memᴰ.tail m)) a)

  -- rows that do not apply may be passed over
  pub pass_over : (rows more : List R) → ((r : R) → Memᴰ r rows → value r ≡ none) → first_row value (rows ++ more) ≡ first_row value more
  unfolding first_row
  pass_over [] more h = refl
  pass_over (s ∷ rows) more h = rw (h s (Memᴰ.head refl), first_row) (pass_over rows more (λ r m. h r (Memᴰ.tail m)))

-- ---- the rows that a call tries

-- no row of the list that is tried applies, said row by row
pub data NoneApply {R : Type 0} (value : R → Option ℕ) (tried : R → Bool) : List R → Type 0 where
  nothing : NoneApply value tried []
  also : {r : R} {rows : List R} → (tried r ≡ true → value r ≡ none) → NoneApply value tried rows → NoneApply value tried (r ∷ rows)

-- said once for all rows of a kind, of those that are listed
pub none_apply : {R S : Type 0} (value : S → Option ℕ) (tried : S → Bool) (f : R → S) (rows : List R) → ((r : R) → Memᴰ r rows → tried (f r) ≡ true → value (f r) ≡ none) → NoneApply value tried (map f rows)
none_apply value tried f [] h = nothing
none_apply value tried f (r ∷ rows) h = also (h r (Memᴰ.head refl)) (none_apply value tried f rows (λ s m. h s (Memᴰ.tail m)))

module _ {R : Type 0} (value : R → Option ℕ) (tried : R → Bool) where
  -- such rows are passed over ..
  pub passed_over : {rows : List R} (more : List R) → NoneApply value tried rows → first_row value (select tried (rows ++ more)) ≡ first_row value (select tried more)
  unfolding select first_row
  passed_over more nothing = refl
  passed_over more (also {r} {rows} h rest) = go (tried r) refl (passed_over more rest)
    where
      go : (b : Bool) → tried r ≡ b → first_row value (select tried (rows ++ more)) ≡ first_row value (select tried more) →
          first_row value (keep_if b r (select tried (rows ++ more))) ≡ first_row value (select tried more)
      go true p e = rw (h p, first_row) e
      go false p e = e

  -- .. a row that decides among some decides among more ..
  pub still_decides : (rows more : List R) (d : Decided R) → first_row value (select tried rows) ≡ some d → first_row value (select tried (rows ++ more)) ≡ some d
  unfolding select first_row
  still_decides [] more d e = absurd (let z : ◌≡◌ {A = ℕ} 0 1 = cc in omega arith)
  still_decides (r ∷ rows) more d e = go (tried r) e (still_decides rows more d)
    where
      here : (o : Option ℕ) → ◌≡◌ {A = Option (Decided R)} (elim o as (λ _. Option (Decided R)) [ some v ↦ some (decided r v) | none ↦ first_row value (select tried rows) ]) (some d) →
          (first_row value (select tried rows) ≡ some d → first_row value (select tried (rows ++ more)) ≡ some d) →
          ◌≡◌ {A = Option (Decided R)} (elim o as (λ _. Option (Decided R)) [ some v ↦ some (decided r v) | none ↦ first_row value (select tried (rows ++ more)) ]) (some d)
      here (some v) e rest = e
      here none e rest = rest e

      go : (b : Bool) → first_row value (keep_if b r (select tried rows)) ≡ some d → (first_row value (select tried rows) ≡ some d → first_row value (select tried (rows ++ more)) ≡ some d) →
          first_row value (keep_if b r (select tried (rows ++ more))) ≡ some d
      go true e rest = here (value r) e rest
      go false e rest = rest e

  -- .. and the row after them decides, where it is tried and applies
  pub decides_after : {before : List R} (after : List R) (r : R) (v : ℕ) → NoneApply value tried before → tried r ≡ true → value r ≡ some v →
      first_row value (select tried (before ++ r ∷ after)) ≡ some (decided r v)
  unfolding select first_row
  decides_after after r v passed t a = passed_over (r ∷ after) passed ∙ rw (t) (rw (a, first_row))

-- Two ways to try rows and to compute what they return decide alike: each row is tried by both or by neither, and returns the same where it
-- is tried; or one finds nothing where the other does not try.
module _ {R : Type 0} (v w : R → Option ℕ) (tried also-tried : R → Bool) where
  abbrev pub Alike : R → Type 0
  Alike r = ((tried r ≡ also-tried r) × (tried r ≡ true → v r ≡ w r)) ⊎ ((v r ≡ none) × (also-tried r ≡ false))

  pub alike_decides : (rows : List R) → ((r : R) → Memᴰ r rows → Alike r) → first_row v (select tried rows) ≡ first_row w (select also-tried rows)
  unfolding select first_row
  alike_decides [] alike = refl
  alike_decides (r ∷ rows) alike = go (alike r (Memᴰ.head refl)) (alike_decides rows (λ s m. alike s (Memᴰ.tail m)))
    where
      here : (o : Option ℕ) → first_row v (select tried rows) ≡ first_row w (select also-tried rows) →
          ◌≡◌ {A = Option (Decided R)} (elim o as (λ _. Option (Decided R)) [ some x ↦ some (decided r x) | none ↦ first_row v (select tried rows) ])
          (elim o as (λ _. Option (Decided R)) [ some x ↦ some (decided r x) | none ↦ first_row w (select also-tried rows) ])
      here (some x) f = refl
      here none f = f

      both : (b : Bool) → tried r ≡ b → (tried r ≡ true → v r ≡ w r) → first_row v (select tried rows) ≡ first_row w (select also-tried rows) →
          first_row v (keep_if b r (select tried rows)) ≡ first_row w (keep_if b r (select also-tried rows))
      both true t same f = rw (same t) (here (w r) f)
      both false t same f = f

      left : (b : Bool) → v r ≡ none → first_row v (select tried rows) ≡ first_row w (select also-tried rows) → first_row v (keep_if b r (select tried rows)) ≡ first_row w (select also-tried rows)
      left true n f = rw (n, first_row) f
      left false n f = f

      go : Alike r → first_row v (select tried rows) ≡ first_row w (select also-tried rows) → first_row v (keep_if (tried r) r (select tried rows)) ≡ first_row w (keep_if (also-tried r) r (select also-tried rows))
      go (inl (e, same)) f = rw (← e) (both (tried r) refl same f)
      go (inr (n, e)) f = rw (e) (left (tried r) n f)

-- with the same rows tried
pub same_decides : {R : Type 0} (v w : R → Option ℕ) (tried : R → Bool) (rows : List R) → ((r : R) → Memᴰ r rows → tried r ≡ true → v r ≡ w r) → first_row v (select tried rows) ≡ first_row w (select tried rows)
same_decides v w tried rows same = alike_decides v w tried tried rows (λ r m. inl (refl, same r m))
