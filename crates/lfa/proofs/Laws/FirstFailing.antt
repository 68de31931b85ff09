-- The values that rows return: the first number at which a test fails, as it is computed and as `FirstFails` says it, and a value that is
-- given unless one test passes.
-- Assumes nothing.
use Rattle.std.specs.Prelude.{ℕ, zero, suc, ◌+◌, ◌≤◌, ◌<◌, ◌≡◌, refl, ◌⊎◌, Bool, true, false, eqb}
use Rattle.std.proofs.Common.{ap, inl, inr, arith, eq-or-lt_of_le, eqb-true}
use Rattle.std.proofs.Math.Option.{Option, none, some}
use Rattle.std.proofs.lemmas.Bool.{eqb-false}
use Rattle.lfa.specs.Lists.{first_failing, FirstFails, unless}
use Rattle.lfa.proofs.Laws.Test.{decide}

-- None fails exactly when each passes: the search goes on to number i + 1 only where number i passes, and finds none only where it has
-- come to the end.
pub none_failing : (good : ℕ → Bool) (i n : ℕ) → first_failing good i n ≡ none → (k : ℕ) → i ≤ k → k < i + n → good k ≡ true
unfolding first_failing
none_failing good i zero e k h h' = absurd (omega arith)
none_failing good i (suc n) e k h h' = go (good i) refl e (none_failing good (suc i) n) (decide (eqb i k))
  where
    go : (b : Bool) → good i ≡ b → ◌≡◌ {A = Option ℕ} (elim b as (λ _. Option ℕ) [ true ↦ first_failing good (suc i) n | false ↦ some i ]) none →
        (first_failing good (suc i) n ≡ none → (k : ℕ) → suc i ≤ k → k < suc i + n → good k ≡ true) → (eqb i k ≡ true) ⊎ (eqb i k ≡ false) → good k ≡ true
    go true g e rest (inl t) = rw (← eqb-true i k t) g
    go true g e rest (inr t) = let ne : i ≡ k → ⊥ = eqb-false i k t in rest e k (omega arith) (omega arith)
    go false g e rest t = cc

pub all_passing : (good : ℕ → Bool) (i n : ℕ) → ((k : ℕ) → i ≤ k → k < i + n → good k ≡ true) → first_failing good i n ≡ none
unfolding first_failing
all_passing good i zero h = refl
all_passing good i (suc n) h = rw (h i (omega arith) (omega arith), first_failing) (all_passing good (suc i) n (λ k a b. h k (omega arith) (omega arith)))

-- The number found is the first that fails, and the first that fails is found: the numbers before it are those at which the search has
-- gone on.
pub first_failing_lem : (good : ℕ → Bool) (i n k : ℕ) → first_failing good i n ≡ some k → FirstFails good i n k
unfolding first_failing
first_failing_lem good i zero k e = absurd (let z : ◌≡◌ {A = ℕ} 0 1 = cc in omega arith)
first_failing_lem good i (suc n) k e = go (good i) refl e (first_failing_lem good (suc i) n k)
  where
    later : good i ≡ true → FirstFails good (suc i) n k → (j : ℕ) → i ≤ j → j < k → good j ≡ true
    later g f j h l = pick (eq-or-lt_of_le h)
      where
        pick : (i ≡ j) ⊎ (i < j) → good j ≡ true
        pick (inl p) = rw (← p) g
        pick (inr m) = f.before j m l

    go : (b : Bool) → good i ≡ b → ◌≡◌ {A = Option ℕ} (elim b as (λ _. Option ℕ) [ true ↦ first_failing good (suc i) n | false ↦ some i ]) (some k) →
        (first_failing good (suc i) n ≡ some k → FirstFails good (suc i) n k) → FirstFails good i (suc n) k
    go true g e rest = let f = rest e in record { from = omega (arith, f.from); to = omega (arith, f.to); fails = f.fails; before = later g f }
    go false g e rest =
        let p : i ≡ k = cc in
        record { from = omega arith; to = omega arith; fails = rw (← p) g; before = λ j h l. absurd (omega arith) }

pub failing_first : (good : ℕ → Bool) (i n k : ℕ) → FirstFails good i n k → first_failing good i n ≡ some k
unfolding first_failing
failing_first good i zero k f = absurd (omega (arith, f.from, f.to))
failing_first good i (suc n) k f = pick (eq-or-lt_of_le f.from) (failing_first good (suc i) n k)
  where
    pick : (i ≡ k) ⊎ (i < k) → (FirstFails good (suc i) n k → first_failing good (suc i) n ≡ some k) → first_failing good i (suc n) ≡ some k
    pick (inl p) rest = let e : good i ≡ false = rw p f.fails in rw (e, first_failing) (ap some p)
    pick (inr l) rest =
        let e : good i ≡ true = f.before i (omega arith) l in
        rw (e, first_failing) (rest (record { from = l; to = omega (arith, f.to); fails = f.fails; before = λ j h m. f.before j (omega arith) m }))

-- ---- a value that is given unless a test passes

pub unless_none : (good : Bool) (v : ℕ) → unless good v ≡ none → good ≡ true
unfolding unless
unless_none true v e = refl
unless_none false v e = cc

pub unless_good : (good : Bool) (v : ℕ) → good ≡ true → unless good v ≡ none
unfolding unless
unless_good good v e = rw (e, unless)
