-- The answer of a loop that looks for the first number at which a test fails.
-- Assumes nothing.
use Rattle.std.specs.Prelude.{ℕ, Option, Some, None}
use Rattle.std.proofs.Math.Option as maybe

-- the answer of code, as `first_failing` gives it
abbrev pub found_in : Option ℕ → maybe.Option ℕ
found_in None = maybe.none
found_in (Some k) = maybe.some k
