-- Each cell is the least sum exactly where the table is right and its finite cells are small.
-- Assumes nothing.
use Prim.Native.Nat.{ℕ, ◌+◌, ◌*◌, ◌≤◌, ◌<◌}
use mathlib.Core.Path.{◌≡◌, sym, ◌∙◌}
use mathlib.Core.Logic.{◌⊎◌, inl, inr}
use mathlib.Core.Bool.{Bool}
use mathlib.Core.List.{List, Memᴰ}
use native.Mathlib.Omega.{arith}
use native.Mathlib.Nat.{le_antisymm}
use native.Mathlib.Decide.{dec_lt}
use lib.Arith.{digits_lt}
use lib.ListN.{get_or}
use Rattle.lfa.specs.Network.{Arc, arc}
use Rattle.lfa.specs.Distance.{unreachable}
use Rattle.lfa.specs.Sound.{Within}
use Rattle.metric.specs.Area.{area_cell}
use Rattle.metric.specs.RightTable.{RightTable}
use Rattle.metric.proofs.Laws.Area.{each_place}
use Rattle.table.specs.Sums.{Form, cell_of, Real, Stands, real, wrong, Copied, Cleared, LeastSums, Same, SameCells, Small, Tested}
use Rattle.table.proofs.SumLaws.{Shown, sum_diagonal, sum_most, sum_shown}
use Rattle.table.proofs.CellLaws.{Sized, stands_real, real_most, real_zero, real_finite, real_slack, real_tight}

-- an arc of the table is tight for cell (x, t)
abbrev Tight : List Arc → (n : ℕ) → (table : List ℕ) → ℕ → ℕ → Type 0
Tight hops n table x t = (y : ℕ) × (c : ℕ) × (l : ℕ) × Memᴰ (arc x y c l) hops × (c + area_cell n table y t ≡ area_cell n table x t)

module _ {f : Form} {hops : List Arc} {n : ℕ} {table cells first sums : List ℕ} (z : Sized f) (within : Within hops n) (q : Copied f n table cells) (clear : Cleared f n first) (low : LeastSums f hops cells first sums) where
  -- cell (x, t) may be a distance, and what stands in the sums stands for it
  abbrev RealAt : ℕ → ℕ → Type 0
  RealAt x t = Real f.longest f.limit (area_cell n table x t) (cell_of f cells x t)

  -- a router's number is a row and a column
  wide : {x : ℕ} → x < n → x < f.width
  wide h = omega (arith, q.few)

  -- ---- the test passes: the table is right

  -- No least sum is above the limit, so that each cell may be a distance. A cell whose arc leads to a finite one is then at most the sum,
  -- since what stands for it is; and a finite cell off the diagonal is below the limit, so that some arc makes it up.
  module _ (same : (x t : ℕ) → x < n → t < n → cell_of f cells x t ≡ cell_of f sums x t) where
    fits : (x t : ℕ) → x < n → t < n → RealAt x t
    fits x t hx ht = go (q.stands x t hx ht)
      where
        go : Stands f.longest f.limit (area_cell n table x t) (cell_of f cells x t) → RealAt x t
        go (real r) = r
        go (wrong h k e) = absurd (omega (arith, same x t hx ht, sum_most clear low x t (wide hx) (wide ht)))

    same_right : RightTable hops n table
    same_right = record {
      diagonal = λ x h. (real_zero z (fits x x h h)).1 (same x x h h ∙ sum_diagonal clear low x h (wide h));
      slack = λ {x} {z = y} t h m. (real_slack z (low.capped m) (fits x t (within.from m) h) (fits y t (within.to m) h)).1 (omega (arith, same x t (within.from m) h, low.bound t (wide h) m));
      shown = λ x t hx ht k. shown x t hx ht k (sum_shown clear low x t (wide hx) (wide ht));
      most = λ x t hx ht. (real_most z (fits x t hx ht)).0;
    }
      where
        shown : (x t : ℕ) → x < n → t < n → area_cell n table x t < unreachable → Shown f hops n cells sums x t → (x ≡ t) ⊎ Tight hops n table x t
        shown x t hx ht k (inl e) = inl e.0
        shown x t hx ht k (inr (inl e)) = absurd (omega (arith, same x t hx ht, (real_finite z (fits x t hx ht)).0 k))
        shown x t hx ht k (inr (inr (y, c, l, m, e))) =
            inr (y, c, l, m, (real_tight z (low.capped m) k (fits x t hx ht) (fits y t (within.to m) ht)).1 (e ∙ sym (same x t hx ht)))

  -- ---- the table is right: the test passes

  -- The sums are at most the cells, since a finite cell off the diagonal is shown by an arc, and at least the cells, since no arc undercuts
  -- a cell.
  module _ (right : RightTable hops n table) (small : Small n table) where
    sound : (x t : ℕ) → x < n → t < n → RealAt x t
    sound x t hx ht = stands_real (right.most x t hx ht) (small x t hx ht) (q.stands x t hx ht)

    sum_below : (x t : ℕ) → x < n → t < n → cell_of f sums x t ≤ cell_of f cells x t
    sum_below x t hx ht = go (dec_lt (cell_of f cells x t) f.limit)
      where
        by : area_cell n table x t < unreachable → (x ≡ t) ⊎ Tight hops n table x t → cell_of f sums x t ≤ cell_of f cells x t
        by k (inl e) = rw (← e) (omega (arith, sum_diagonal clear low x hx (wide hx)))
        by k (inr (y, c, l, m, e)) = omega (arith, (real_tight z (low.capped m) k (sound x t hx ht) (sound y t (within.to m) ht)).0 e, low.bound t (wide ht) m)

        go : Dec (cell_of f cells x t < f.limit) → cell_of f sums x t ≤ cell_of f cells x t
        go (yes h) = let k = (real_finite z (sound x t hx ht)).1 h in by k (right.shown x t hx ht k)
        go (no h) = omega (arith, sum_most clear low x t (wide hx) (wide ht))

    cell_below : (x t : ℕ) → x < n → t < n → cell_of f cells x t ≤ cell_of f sums x t
    cell_below x t hx ht = go (sum_shown clear low x t (wide hx) (wide ht))
      where
        go : Shown f hops n cells sums x t → cell_of f cells x t ≤ cell_of f sums x t
        go (inl (e, h)) = rw (← e) (omega (arith, (real_zero z (sound x x hx hx)).0 (right.diagonal x hx)))
        go (inr (inl e)) = omega (arith, real_most z (sound x t hx ht))
        go (inr (inr (y, c, l, m, e))) = omega (arith, (real_slack z (low.capped m) (sound x t hx ht) (sound y t (within.to m) ht)).0 (right.slack t ht m))

  -- ---- the cells that are not used

  -- A cell that is not used holds the limit, and so does its sum: it is not on the diagonal, and an arc adds to a cell that is not used.
  sum_rest : (x t : ℕ) → x < f.width → t < f.width → (n ≤ x) ⊎ (n ≤ t) → cell_of f sums x t ≡ f.limit
  sum_rest x t hx ht o = go o (sum_shown clear low x t hx ht)
    where
      go : (n ≤ x) ⊎ (n ≤ t) → Shown f hops n cells sums x t → cell_of f sums x t ≡ f.limit
      go _ (inr (inl e)) = e
      go (inl h) (inl e) = absurd (omega (arith, e.1))
      go (inr h) (inl e) = absurd (omega (arith, e.0, e.1))
      go (inl h) (inr (inr (y, c, l, m, e))) = absurd (omega (arith, within.from m))
      go (inr h) (inr (inr (y, c, l, m, e))) = omega (arith, sum_most clear low x t hx ht, q.rest y t (wide (within.to m)) ht (inr h))

  rest_same : (x t : ℕ) → x < f.width → t < f.width → (n ≤ x) ⊎ (n ≤ t) → cell_of f cells x t ≡ cell_of f sums x t
  rest_same x t hx ht o = q.rest x t hx ht o ∙ sym (sum_rest x t hx ht o)

  right_same : RightTable hops n table → Small n table → Same (f.width * f.width) (λ i. get_or cells i 0) (λ i. get_or sums i 0)
  right_same right small = each_place (λ i. get_or cells i 0 ≡ get_or sums i 0) (λ x t hx ht. go x t hx ht (dec_lt x n) (dec_lt t n))
    where
      go : (x t : ℕ) → x < f.width → t < f.width → Dec (x < n) → Dec (t < n) → cell_of f cells x t ≡ cell_of f sums x t
      go x t hx ht (yes k) (yes l) = le_antisymm (cell_below right small x t k l) (sum_below right small x t k l)
      go x t hx ht (yes k) (no l) = rest_same x t hx ht (inr (omega arith))
      go x t hx ht (no k) _ = rest_same x t hx ht (inl (omega arith))

  pub same_tested : {r : Bool} → SameCells (f.width * f.width) (λ i. get_or cells i 0) (λ i. get_or sums i 0) r → Tested hops n table r
  same_tested s = record {
    right = λ e. same_right (λ x t hx ht. s.holds e (x * f.width + t) (digits_lt (wide hx) (wide ht)));
    passes = λ right small. s.told (right_same right (small record { most = λ m. low.capped m }));
  }
