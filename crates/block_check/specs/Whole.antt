-- The check of any bytes.
-- Assumes nothing.
use Rattle.std.specs.Prelude.{◌≡◌, ℕ, true, false, length, ◌==◌, ◌≢◌}
use borrow.Author.Tests.{eq-eqb, ne_eqb}
use Rattle.lfa.specs.File.{Bytes, check_of}

-- the check of a block; 0 for bytes that are no block of 512
unfoldable pub check_of_whole : Bytes → ℕ
check_of_whole b = elim (length b == 512) [ true ↦ check_of b | false ↦ 0 ]

module _ (b : Bytes) where
  pub whole : length b ≡ 512 → check_of_whole b ≡ check_of b
  unfolding check_of_whole
  whole e = rw (check_of_whole, eq-eqb (length b) 512 e)

  pub not_whole : (length b ≢ 512) → check_of_whole b ≡ 0
  unfolding check_of_whole
  not_whole h = rw (check_of_whole, ne_eqb (length b) 512 h)
