-- Row 2 over any bytes: "a block's check is wrong", and the first such block.
-- Assumes nothing.
use Rattle.std.specs.Prelude.{◌≡◌, ℕ, zero, suc, ◌<◌, ◌≤◌, true, false}
use Rattle.std.proofs.Math.Option.{none, some}
use Rattle.std.proofs.Common.{arith, add-one}
use Rattle.lfa.specs.Lists.{first_failing, FirstFails}
use Rattle.lfa.proofs.Laws.FirstFailing.{first_failing_lem, failing_first}
use Rattle.lfa.specs.File.{Bytes, blocks_in, check_good}
use Rattle.check_forms.specs.Laws.FirstOr.{Searching, search_starts, search_passed, search_found, search_none, answer_found, answer_none}

-- the first of the whole blocks whose check is wrong, or their number where none is
unfoldable pub first_bad : Bytes → ℕ
first_bad b = elim (first_failing (check_good b) 0 (blocks_in b)) [ none ↦ blocks_in b | some k ↦ k ]

-- every block before block i has the right check
abbrev pub Passed : Bytes → ℕ → Type 0
Passed b i = (k : ℕ) → k < i → check_good b k ≡ true

-- a search that has passed these blocks goes on at block i
searching : (b : Bytes) (i : ℕ) → i ≤ blocks_in b → Passed b i → Searching (check_good b) 0 (blocks_in b) (blocks_in b) i
searching b zero h passed = search_starts _ _ _ _ (omega arith)
searching b (suc i) h passed =
    let before = searching b i (omega arith) (λ k l. passed k (omega arith)) in
    rw (← add-one i) (search_passed _ _ _ _ i before (omega arith) (passed i (omega arith)))

-- What a loop that has come to block i may tell: that is the first bad block where its check is wrong, and none is bad once all are passed.
module _ (b : Bytes) (i : ℕ) (passed : Passed b i) where
  first : i < blocks_in b → check_good b i ≡ false → FirstFails (check_good b) 0 (blocks_in b) i
  first h e = first_failing_lem _ _ _ _ (answer_found _ _ _ _ i (search_found _ _ _ _ i (searching b i (omega arith) passed) h e) h)

  pub bad_found : i < blocks_in b → check_good b i ≡ false → i ≡ first_bad b
  unfolding first_bad
  bad_found h e = rw (first_bad, failing_first (check_good b) 0 (blocks_in b) i (first h e))

  pub all_passed : blocks_in b ≤ i → blocks_in b ≡ first_bad b
  unfolding first_bad
  all_passed h =
      let whole = searching b (blocks_in b) (omega arith) (λ k l. passed k (omega arith)) in
      rw (first_bad, answer_none _ _ _ _ (blocks_in b) (omega arith) (search_none _ _ _ _ (blocks_in b) whole (omega arith)) (omega arith))
