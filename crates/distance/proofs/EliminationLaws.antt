-- Elimination and substitution, router by router: over which routers no detour is shorter, and that no cell falls too far.
-- Assumes nothing.
use Prim.Native.Nat.{ℕ, ◌+◌, ◌≤◌, ◌<◌}
use mathlib.Core.Path.{◌≡◌, ap}
use mathlib.Core.Logic.{inl, inr}
use mathlib.Core.List.{List}
use native.Mathlib.Omega.{arith}
use native.Mathlib.Decide.{dec_lt, ℕ_discrete}
use Rattle.metric.specs.Area.{area_cell}
use Rattle.distance.specs.Cells.{Limited, RowsLowered, Triangular, Above, Fallen, Eliminated, Substituted}

-- ---- cells that fall

pub fallen_limited : {n : ℕ} {before after : List ℕ} → Limited n before → Fallen n before after → Limited n after
fallen_limited limited fallen = record { few = limited.few; long = fallen.long; small = λ i j hi hj. omega (arith, fallen.lower i j hi hj, limited.small i j hi hj) }

-- Rows are lowered by row k. Where the weights are not below a table in which no detour is shorter, what a cell is lowered to is not
-- either: it is a detour over router k or more.
fallen_more : {n k first last : ℕ} {weight : ℕ → ℕ} {before cells after : List ℕ} → k < n → Fallen n before cells → RowsLowered n k first last weight cells after →
    ((d : ℕ → ℕ → ℕ) → Triangular n d → Above n d before → (i : ℕ) → i < n → d i k ≤ weight i) → Fallen n before after
fallen_more {n} {k} {first} {last} {weight} {before} {cells} {after} hk fallen low above = record {
  long = low.long;
  lower = λ i j hi hj. omega (arith, fallen.lower i j hi hj, lower i j hi hj (dec_lt i first) (dec_lt i last));
  kept = λ d t h i j hi hj. kept d t h i j hi hj (dec_lt i first) (dec_lt i last);
}
  where
    lower : (i j : ℕ) → i < n → j < n → Dec (i < first) → Dec (i < last) → area_cell n after i j ≤ area_cell n cells i j
    lower i j hi hj (yes f) _ = omega (arith, low.rest i j (inl f) hi hj)
    lower i j hi hj (no f) (no l) = omega (arith, low.rest i j (inr (omega arith)) hi hj)
    lower i j hi hj (no f) (yes l) = omega (arith, low.low i j (omega arith) l hi hj)

    kept : (d : ℕ → ℕ → ℕ) → Triangular n d → Above n d before → (i j : ℕ) → i < n → j < n → Dec (i < first) → Dec (i < last) → d i j ≤ area_cell n after i j
    kept d t h i j hi hj (yes f) _ = omega (arith, low.rest i j (inl f) hi hj, fallen.kept d t h i j hi hj)
    kept d t h i j hi hj (no f) (no l) = omega (arith, low.rest i j (inr (omega arith)) hi hj, fallen.kept d t h i j hi hj)
    kept d t h i j hi hj (no f) (yes l) =
        omega (arith, low.low i j (omega arith) l hi hj, fallen.kept d t h i j hi hj, fallen.kept d t h k j hk hj, above d t h i hi, t.detour i k j hi hk hj)

-- ---- elimination

-- Router m is eliminated too. Over m no detour is shorter, since the row was lowered by row m. Over a later router k none is either: where
-- the cell of k was lowered, it is a detour over m, and from m on the detour over k was no shorter.
pub eliminated_more : {n m : ℕ} {before cells after : List ℕ} → m < n → Eliminated n (m + 1) before cells → RowsLowered n m 0 m (λ i. area_cell n cells i m) cells after → Eliminated n m before after
eliminated_more {n} {m} {before} {cells} {after} hm gone low = record {
  fallen = fallen_more hm gone.fallen low (λ d t h i hi. gone.fallen.kept d t h i m hi hm);
  over = λ i k j l h hk hj. over i k j l h hk hj (dec_lt i m) (ℕ_discrete k m);
}
  where
    same : (i j : ℕ) → m ≤ i → i < n → j < n → area_cell n after i j ≡ area_cell n cells i j
    same i j h hi hj = low.rest i j (inr h) hi hj

    over : (i k j : ℕ) → i < k → m ≤ k → k < n → j < n → Dec (i < m) → Dec (k ≡ m) → area_cell n after i j ≤ area_cell n after i k + area_cell n after k j
    over i k j l h hk hj (no s) (yes e) = absurd (omega arith)
    over i k j l h hk hj (no s) (no e) = omega (arith, same i j (omega arith) (omega arith) hj, same i k (omega arith) (omega arith) hk, same k j (omega arith) hk hj, gone.over i k j l (omega arith) hk hj)
    over i k j l h hk hj (yes s) (yes e) = rw e (omega (
      arith,
      low.low i j (omega arith) s (omega arith) hj,
      low.low i m (omega arith) s (omega arith) hm,
      same m j (omega arith) hm hj,
    ))
    over i k j l h hk hj (yes s) (no e) = omega (
      arith,
      low.low i j (omega arith) s (omega arith) hj,
      low.low i k (omega arith) s (omega arith) hk,
      same k j h hk hj,
      gone.over i k j l (omega arith) hk hj,
      gone.over m k j (omega arith) (omega arith) hk hj,
    )

-- ---- substitution

-- The row of router m is substituted too. The rows after it are lowered by it, and it is not lowered any more.
pub substituted_more : {n m : ℕ} {weights before cells after : List ℕ} → m < n → weights ≡ before →
    Substituted n m before cells → RowsLowered n m (m + 1) n (λ i. area_cell n weights i m) cells after → Substituted n (m + 1) before after
substituted_more {n} {m} {weights} {before} {cells} {after} hm copied put low = record {
  fallen = fallen_more hm put.fallen low (λ d t h i hi. omega (arith, ap (λ (l : List ℕ). area_cell n l i m) copied, h i m hi hm));
  over = λ i k j l h hi hj. over i k j l h hi hj (dec_lt m i) (ℕ_discrete k m);
}
  where
    same : (i j : ℕ) → i ≤ m → j < n → area_cell n after i j ≡ area_cell n cells i j
    same i j h hj = low.rest i j (inl (omega arith)) (omega arith) hj

    over : (i k j : ℕ) → k < i → k < m + 1 → i < n → j < n → Dec (m < i) → Dec (k ≡ m) → area_cell n after i j ≤ area_cell n before i k + area_cell n after k j
    over i k j l h hi hj (yes s) (yes e) = rw e (omega (arith, low.low i j (omega arith) hi hi hj, ap (λ (l : List ℕ). area_cell n l i m) copied, same m j (omega arith) hj))
    over i k j l h hi hj (yes s) (no e) = omega (arith, low.low i j (omega arith) hi hi hj, same k j (omega arith) hj, put.over i k j l (omega arith) hi hj)
    over i k j l h hi hj (no s) _ = omega (arith, same i j (omega arith) hj, same k j (omega arith) hj, put.over i k j l (omega arith) hi hj)
