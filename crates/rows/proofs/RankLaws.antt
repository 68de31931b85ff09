-- How often a table gives a rank, one class at a time, and the test of a table, return by return.
-- Assumes nothing.
use Prim.Native.Nat.{ℕ, ◌+◌, ◌<◌}
use mathlib.Core.Path.{◌≡◌, sym}
use mathlib.Core.Bool.{Bool, true, false}
use mathlib.Core.List.{List}
use native.Mathlib.Omega.{arith}
use native.Mathlib.Numerals.{add-one}
use lib.Dec.{eqb}
use lib.ListN.{length}
use borrow.Author.Tests.{eq-eqb, ne_eqb}
use Rattle.lfa.specs.Lists.{count}
use Rattle.lfa.specs.Ranks.{classes, rank_of, times_given, is_arrangement}
use Rattle.lfa.proofs.Laws.Test.{and_make, fails_left, fails_right}
use Rattle.lfa.proofs.Laws.List.{every_make}
use Rattle.metric.proofs.Laws.List.{every_fails}

module _ (ranks : List ℕ) (k : ℕ) where
  -- how many of the first classes have rank k
  abbrev pub given_to : ℕ → ℕ
  given_to first = count (λ class. eqb (rank_of ranks class) k) first

  -- the next class has it:
  pub given_also : (class : ℕ) → rank_of ranks class ≡ k → given_to class + 1 ≡ given_to (class + 1)
  unfolding count
  given_also class e = sym (rw (add-one class, count, eq-eqb (rank_of ranks class) k e) (omega arith))

  -- or has another:
  pub given_not : (class : ℕ) → (rank_of ranks class ≡ k → ⊥) → given_to class ≡ given_to (class + 1)
  unfolding count
  given_not class f = sym (rw (add-one class, count, ne_eqb (rank_of ranks class) k f) (omega arith))

module _ (ranks : List ℕ) where
  -- whether rank k is given to one class
  abbrev pub once : ℕ → Bool
  once k = eqb (times_given ranks k) 1

  -- too few or too many ranks, a rank that is not given just once, and every test passed
  pub wrong_length : (length ranks ≡ classes → ⊥) → false ≡ is_arrangement ranks
  unfolding is_arrangement
  wrong_length f = sym (fails_left _ _ (ne_eqb (length ranks) classes f))

  pub not_once : (k : ℕ) → k < classes → (times_given ranks k ≡ 1 → ⊥) → false ≡ is_arrangement ranks
  unfolding is_arrangement
  not_once k h f = sym (fails_right (eqb (length ranks) classes) _ (every_fails once classes k h (ne_eqb (times_given ranks k) 1 f)))

  pub each_once : length ranks ≡ classes → ((k : ℕ) → k < classes → once k ≡ true) → true ≡ is_arrangement ranks
  unfolding is_arrangement
  each_once e each = sym (and_make _ _ (eq-eqb (length ranks) classes e) (every_make once classes each))
