-- The answer of a loop that looks for the first number at which a test fails, where that answer is a number and no `Option`: the number
-- found, or the end of the search, as `check_forms_first_bad` answers. The laws of such a loop are in Laws/FirstOr.
-- Assumes nothing.
use Rattle.std.specs.Prelude.{ℕ}
use Rattle.std.proofs.Math.Option.{Option, none, some}

-- the number found, or `end` where none was
unfoldable pub first_or : ℕ → Option ℕ → ℕ
first_or end none = end
first_or end (some k) = k
