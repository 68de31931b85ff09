-- The loop that looks for the first number at which a test fails, for any test, any start and any count: rows 2 and 5 to 9.
-- Assumes nothing.
use Rattle.std.specs.Prelude.{ℕ, ◌+◌, ◌≤◌, ◌<◌, ◌≡◌, Bool, true, false, ◌⊎◌}
use Rattle.std.proofs.Common.{sym, inl, inr, eq-or-lt_of_le, arith}
use Rattle.std.proofs.Math.Option.{none, some}
use Rattle.lfa.specs.Lists.{first_failing}
use Rattle.lfa.proofs.Laws.FirstFailing.{all_passing, failing_first}

-- A loop `for i in start..` that tries `count` numbers, and tells the first at which the test fails.
module _ (good : ℕ → Bool) (start count : ℕ) where
  -- the invariant: the test passed at each number before i
  abbrev pub Passed : ℕ → Type 0
  Passed i = (k : ℕ) → start ≤ k → k < i → good k ≡ true

  -- nothing is before the start
  pub passed_start : Passed start
  passed_start k h l = absurd (omega arith)

  -- the test passes at i
  pub passed_more : (i : ℕ) → Passed i → good i ≡ true → Passed (i + 1)
  passed_more i p e k h l = pick (eq-or-lt_of_le (omega arith))
    where
      pick : (k ≡ i) ⊎ (k < i) → good k ≡ true
      pick (inl q) = rw q e
      pick (inr m) = p k h m

  -- the test fails at i: that is the number looked for
  pub first_found : (i : ℕ) → Passed i → start ≤ i → i < start + count → good i ≡ false → some i ≡ first_failing good start count
  first_found i p h l e = sym (failing_first good start count i (record { from = h; to = l; fails = e; before = p }))

  -- the test passes at each number
  pub none_found : (i : ℕ) → Passed i → start + count ≤ i → none ≡ first_failing good start count
  none_found i p h = sym (all_passing good start count (λ k a b. p k a (omega arith)))
