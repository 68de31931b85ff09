-- Rows of cells that are lowered by another row.
-- Assumes nothing.
use Prim.Native.Nat.{ℕ, ◌+◌, ◌-◌, ◌*◌, ◌≤◌, ◌<◌, min}
use mathlib.Core.Path.{◌≡◌, ◌∙◌}
use mathlib.Core.Logic.{◌⊎◌, inl, inr}
use mathlib.Core.List.{List}
use native.Mathlib.Omega.{arith}
use native.Mathlib.Decide.{dec_lt}
use lib.ListN.{length, get_or}
use borrow.Rule.Slice.PartMut.{put_mid, mid_of}
use borrow.Author.Rules.{rules}
use Rattle.std.proofs.lemmas.List.{places}
use Rattle.metric.specs.Area.{area_cell}
use Rattle.distance.specs.Cells.{Stored, RowOf, RowsLowered}
use Rattle.distance.proofs.StoreLaws.{next, below}

-- ---- k cells from `a` on, and what is put in their place

module _ (a k : ℕ) (xs : List ℕ) (inside : a + k ≤ length xs) where
  mid_long : length (mid_of a k xs) ≡ k
  mid_long = search (rules, places)

  mid_at : (j : ℕ) → j < k → get_or (mid_of a k xs) j 0 ≡ get_or xs (a + j) 0
  mid_at j h = search (rules, places)

  put_long : (ys : List ℕ) → length ys ≡ k → length (put_mid a k xs ys) ≡ length xs
  put_long ys e = search (rules, places)

  put_at : (ys : List ℕ) (j : ℕ) → length ys ≡ k → j < k → get_or (put_mid a k xs ys) (a + j) 0 ≡ get_or ys j 0
  put_at ys j e h = search (rules, places)

  put_below : (ys : List ℕ) (j : ℕ) → length ys ≡ k → j < a → get_or (put_mid a k xs ys) j 0 ≡ get_or xs j 0
  put_below ys j e h = search (rules, places)

  put_above : (ys : List ℕ) (j : ℕ) → length ys ≡ k → a + k ≤ j → get_or (put_mid a k xs ys) j 0 ≡ get_or xs j 0
  put_above ys j e h = search (rules, places)

-- ---- one row

module _ (x n : ℕ) (cells : List ℕ) (row-in : x < n) (long : length cells ≡ n * n) where
  width : (x + 1) * n - x * n ≡ n
  width = omega (arith, next x n)

  inside : x * n + n ≤ length cells
  inside = omega (arith, below x n n row-in)

  -- the cells of row x, as a part
  pub row_cell : (j : ℕ) → j < n → get_or (mid_of (x * n) ((x + 1) * n - x * n) cells) j 0 ≡ area_cell n cells x j
  row_cell j h = rw width (mid_at (x * n) n cells inside j h)

-- one row more
pub rows_more : {n k first x d : ℕ} {weight : ℕ → ℕ} {before by cells row : List ℕ} → RowOf n k before by → x < n → RowsLowered n k first x weight before cells → first ≤ x → d ≡ weight x →
    (let part = mid_of (x * n) ((x + 1) * n - x * n) cells in Stored (length part) (λ j. min (get_or part j 0) (d + get_or by j 0)) part row) →
    RowsLowered n k first (x + 1) weight before (put_mid (x * n) ((x + 1) * n - x * n) cells row)
rows_more {n} {k} {first} {x} {d} {weight} {before} {by} {cells} {row} of row-in lowered from e low = record {
  long = put_long a m cells fits row row-long ∙ lowered.long;
  low = λ i j f h hi hj. done i j f h hi hj (dec_lt i x);
  rest = λ i j o hi hj. rest i j o hi hj;
}
  where
    a : ℕ
    a = x * n

    m : ℕ
    m = (x + 1) * n - x * n

    is : m ≡ n
    is = width x n cells row-in lowered.long

    fits : a + m ≤ length cells
    fits = rw is (inside x n cells row-in lowered.long)

    row-long : length row ≡ m
    row-long = low.long ∙ mid_long a m cells fits

    here : (j : ℕ) → j < n → area_cell n (put_mid a m cells row) x j ≡ min (area_cell n cells x j) (d + get_or by j 0)
    here j h =
        let l = mid_long a m cells fits in
        put_at a m cells fits row j row-long (omega (arith, is)) ∙ low.done j (omega (arith, is, l)) ∙ rw (row_cell x n cells row-in lowered.long j h)

    done : (i j : ℕ) → first ≤ i → i < x + 1 → i < n → j < n → Dec (i < x) → area_cell n (put_mid a m cells row) i j ≡ min (area_cell n before i j) (weight i + area_cell n before k j)
    done i j f h hi hj (yes l) = put_below a m cells fits row (i * n + j) row-long (omega (arith, below i x n l)) ∙ lowered.low i j f l hi hj
    done i j f h hi hj (no l) =
        let s : i ≡ x = omega arith in
        rw s (omega (arith, here j hj, lowered.rest x j (inr (omega arith)) row-in hj, of.same j hj))

    rest : (i j : ℕ) → (i < first) ⊎ (x + 1 ≤ i) → i < n → j < n → area_cell n (put_mid a m cells row) i j ≡ area_cell n before i j
    rest i j (inl o) hi hj = put_below a m cells fits row (i * n + j) row-long (omega (arith, below i x n (omega arith))) ∙ lowered.rest i j (inl o) hi hj
    rest i j (inr o) hi hj = put_above a m cells fits row (i * n + j) row-long (omega (arith, is, below x i n (omega arith))) ∙ lowered.rest i j (inr (omega arith)) hi hj
