-- The test of the public functions, return by return, what it tells once it passes, and the answers of the three sets.
-- Assumes nothing.
use Prim.Native.Nat.{ℕ, ◌+◌, ◌≤◌, ◌<◌}
use mathlib.Core.Path.{◌≡◌, refl, sym, ap₂, ◌∙◌}
use mathlib.Core.Bool.{Bool, true, false, ◌&&◌}
use mathlib.Core.Logic.{◌⊎◌, inl, inr}
use mathlib.Core.List.{List}
use native.Mathlib.Omega.{arith}
use lib.Dec.{ltb}
use lib.ListN.{length}
use borrow.Author.Tests.{ltb-true, le-ltb}
use Rattle.lfa.specs.Space.{under_maintenance, Protected, set_of}
use Rattle.lfa.proofs.Laws.Test.{and_left, and_right, fails_left, fails_right}
use Rattle.lfa.proofs.Laws.Set.{set_of_same}
use Rattle.metric.specs.Fit.{cells_fit}
use Rattle.metric.proofs.Laws.Fit.{cells_give}
use Rattle.metric.specs.Area.{held}
use Rattle.avoid.specs.Avoiding.{clears, clears_to, misses_to}
use Rattle.avoid.specs.Calls.{Readable, readable, avoiding_to, avoiding_from, missing_from}
use Rattle.avoid.specs.Laws.Calls.{to_known, from_known}

-- ---- the test, and what it tells once it passes

pub reads : (n : ℕ) (q : Protected) (area : List ℕ) → readable n q (length area) ≡ true → Readable n q area
unfolding readable
reads n q area t =
    let cells = cells_give n (length area) (and_left _ _ t) in
    let ends = and_right (cells_fit n (length area)) _ t in
    record { few = cells.0; long = cells.1; near_in = ltb-true q.near n (and_left _ _ ends); far_in = ltb-true q.far n (and_right (ltb q.near n) _ ends) }

-- ---- the answers: the set is empty where a test fails, and else the one that was made

module _ (n : ℕ) (q : Protected) (left : ℕ → ℕ) (sums : List ℕ) (target : ℕ → ℕ) where
  pub to_none : readable n q (length sums) ≡ false → 0 ≡ avoiding_to n q left sums target
  unfolding avoiding_to
  to_none f = rw (f, avoiding_to)

  pub to_found : {set : ℕ} → Readable n q sums → set ≡ set_of n (clears left (held n sums) q target) → set ≡ avoiding_to n q left sums target
  to_found r e = e ∙ sym (to_known r left target refl)

module _ (n : ℕ) (q : Protected) (left sums : List ℕ) (x : ℕ) where
  pub from_none : (readable n q (length left) ≡ false) ⊎ (readable n q (length sums) ≡ false) ⊎ (n ≤ x) → 0 ≡ avoiding_from n q left sums x
  unfolding avoiding_from
  from_none o = rw (none o, avoiding_from)
    where
      none : (readable n q (length left) ≡ false) ⊎ (readable n q (length sums) ≡ false) ⊎ (n ≤ x) → (readable n q (length left) && readable n q (length sums) && ltb x n) ≡ false
      none (inl f) = fails_left _ (ltb x n) (fails_left _ (readable n q (length sums)) f)
      none (inr (inl f)) = fails_left _ (ltb x n) (fails_right (readable n q (length left)) _ f)
      none (inr (inr h)) = fails_right (readable n q (length left) && readable n q (length sums)) _ (le-ltb x n h)

  pub from_found : {set : ℕ} → Readable n q left → Readable n q sums → x < n → set ≡ set_of n (clears_to (held n left) (held n sums) q x) → set ≡ avoiding_from n q left sums x
  from_found l r h e = e ∙ sym (from_known l r x h refl)

-- ---- a router in the place of the link: it leads from v to v and costs nothing

-- the two tests of such a link are one
same_twice : (b : Bool) → (b && b) ≡ b
same_twice true = refl
same_twice false = refl

alone_reads : (fit v x : Bool) → ((fit && (v && v)) && (fit && (v && v)) && x) ≡ (fit && v && x)
alone_reads true true x = refl
alone_reads true false x = refl
alone_reads false v x = refl

abbrev alone_at : ℕ → Protected
alone_at v = record { number = 0; near = v; far = v; out = 0; back = 0; maintenance = under_maintenance }

pub missing_found : {set : ℕ} (n v : ℕ) (area : List ℕ) (x : ℕ) → set ≡ avoiding_from n (alone_at v) area area x → set ≡ missing_from n v area x
unfolding avoiding_from missing_from readable clears_to clears misses_to
missing_found n v area x e =
    e ∙ ap₂ (λ (b : Bool) (s : ℕ). elim b [ true ↦ s | false ↦ 0 ]) (alone_reads (cells_fit n (length area)) (ltb v n) (ltb x n))
    (set_of_same n (clears_to (held n area) (held n area) (alone_at v) x) (misses_to (held n area) v x) (λ r k. test r))
  where
    test : (r : ℕ) → clears_to (held n area) (held n area) (alone_at v) x r ≡ misses_to (held n area) v x r
    test r = let none : held n area x v + 0 ≡ held n area x v = omega arith in rw none (same_twice (misses_to (held n area) v x r))
