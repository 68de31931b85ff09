-- The cell that is read, return by return: where all tests pass it is in the area, and among 4,096.
-- Assumes nothing.
use Prim.Native.Nat.{ℕ, ◌+◌, ◌*◌, ◌≤◌, ◌<◌}
use native.Mathlib.Omega.{arith}
use native.Mathlib.Nat.{mul-le-mul}
use mathlib.Core.Path.{◌≡◌}
use mathlib.Core.Bool.{true, false, ◌&&◌}
use mathlib.Core.Logic.{◌⊎◌, inl, inr}
use mathlib.Core.List.{List}
use lib.Dec.{ltb}
use lib.ListN.{length}
use borrow.Author.Tests.{lt-ltb, le-ltb}
use Rattle.lfa.specs.Distance.{unreachable}
use Rattle.lfa.proofs.Laws.Test.{fails_left, fails_right}
use Rattle.metric.specs.Fit.{cells_fit}
use Rattle.metric.specs.Area.{area_cell, cell_in}
use Rattle.std.proofs.Math.Arith.{digits_lt}
use Rattle.metric.proofs.Laws.Fit.{cells_give}
use Rattle.metric.proofs.Laws.Area.{cell_in_lem}

module _ (n : ℕ) (area : List ℕ) (x t : ℕ) where
  -- one of the tests fails
  pub cell_none : (cells_fit n (length area) ≡ false) ⊎ (n ≤ x) ⊎ (n ≤ t) → unreachable ≡ cell_in n area x t
  unfolding cell_in
  cell_none o = rw (none o, cell_in)
    where
      none : (cells_fit n (length area) ≡ false) ⊎ (n ≤ x) ⊎ (n ≤ t) → (cells_fit n (length area) && (ltb x n && ltb t n)) ≡ false
      none (inl e) = fails_left _ _ e
      none (inr (inl h)) = fails_right (cells_fit n (length area)) _ (fails_left _ _ (le-ltb x n h))
      none (inr (inr h)) = fails_right (cells_fit n (length area)) _ (fails_right (ltb x n) _ (le-ltb t n h))

  -- all pass
  pub cell_found : cells_fit n (length area) ≡ true → x < n → t < n → area_cell n area x t ≡ cell_in n area x t
  unfolding cell_in
  cell_found e hx ht = rw (e, lt-ltb x n hx, lt-ltb t n ht, cell_in)

  -- the place of the cell
  pub cell_place : cells_fit n (length area) ≡ true → x < n → t < n → (x * n + t < length area) × (x * n + t < 4096)
  cell_place e hx ht =
      let fit = cells_give n (length area) e in
      let square : n * n ≤ 64 * 64 = mul-le-mul fit.0 fit.0 in
      let few : x * n + t < n * n = digits_lt hx ht in
      (cell_in_lem n area x t hx ht fit.1, omega arith)
