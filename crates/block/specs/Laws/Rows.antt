-- Rows tried in order, for any rows: the first that applies decides, and a row that does not apply is passed over.
-- Assumes nothing.
use Rattle.std.specs.Prelude.{ℕ, ◌≡◌, Bool, false, List, ◌∷◌, ◌++◌}
use Rattle.std.proofs.Math.Option.{Option, none, some}
use Rattle.std.proofs.Common.{append_assoc}
use Rattle.lfa.specs.Lists.{unless}
use Rattle.lfa.specs.Refusal.{Decided, decided, first_row}
use Rattle.lfa.proofs.Laws.Rows.{FirstFound, none_decides, first_found, found_first, pass_over}

-- ---- the first row that applies

module _ {R : Type 0} (value : R → Option ℕ) (r : R) (rows : List R) where
  pub first_here : (v : ℕ) → value r ≡ some v → some (decided r v) ≡ first_row value (r ∷ rows)
  unfolding first_row
  first_here v e = rw (first_row, e)

  pub first_next : value r ≡ none → first_row value rows ≡ first_row value (r ∷ rows)
  unfolding first_row
  first_next e = rw (first_row, e)

-- a row that has one test for the whole file
pub unless_bad : (good : Bool) (v : ℕ) → good ≡ false → unless good v ≡ some v
unfolding unless
unless_bad good v e = rw e

-- ---- the rows that come after

-- what decides among the first rows decides among all, and where nothing does, the rows after them are tried
module _ {R : Type 0} (value : R → Option ℕ) (rows more : List R) where
  pub decided_stays : (d : Decided R) → first_row value rows ≡ some d → first_row value (rows ++ more) ≡ some d
  decided_stays (decided r v) e = go (first_found value rows r v e)
    where
      go : FirstFound value rows r v → first_row value (rows ++ more) ≡ some (decided r v)
      go f = rw (f.tried, append_assoc) (found_first value f.before (f.after ++ more) r v f.passed f.applies)

  pub undecided_next : first_row value rows ≡ none → first_row value (rows ++ more) ≡ first_row value more
  undecided_next e = pass_over value rows more (none_decides value rows e)
