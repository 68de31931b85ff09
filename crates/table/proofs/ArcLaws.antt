-- The arcs that cost what their cells say suffice for the test of a table whose cells are small.
-- Assumes nothing.
use Prim.Native.Nat.{ℕ, zero, suc, ◌+◌, ◌≤◌, ◌<◌}
use mathlib.Core.Path.{◌≡◌, refl, sym, ◌∙◌}
use mathlib.Core.Logic.{◌⊎◌, inl, inr}
use mathlib.Core.Bool.{true}
use mathlib.Core.List.{List, Memᴰ}
use native.Mathlib.Omega.{arith}
use native.Mathlib.Decide.{dec_lt}
use lib.ListN.{get_or}
use Rattle.lfa.specs.Network.{Arc, arc}
use Rattle.lfa.specs.Space.{has}
use Rattle.lfa.specs.Sound.{Within}
use Rattle.metric.specs.Area.{area_cell}
use Rattle.metric.specs.RightTable.{RightTable}
use Rattle.table.specs.Sums.{RowsCopied}
use Rattle.table.specs.Rows.{Kept, RowsRight}

-- ---- the triangle

-- numbers for each two routers that hops neither undercut nor leave unshown
record Least (n : ℕ) (d : ℕ → ℕ → ℕ) (Hop : ℕ → ℕ → ℕ → Type 0) : Type 0 where
  to : (x z c : ℕ) → Hop x z c → z < n
  some : (x z c : ℕ) → Hop x z c → 0 < c
  slack : (x z c t : ℕ) → t < n → Hop x z c → d x t ≤ c + d z t
  shown : (x t : ℕ) → x < n → t < n → (x ≡ t) ⊎ ((z : ℕ) × (c : ℕ) × Hop x z c × (c + d z t ≡ d x t))

-- No number is above the sum by way of a third router. The hop that shows d x y leads to a z with a smaller d z y, since hops cost
-- something; so the claim holds from z on, and the hop does not undercut d x t.
triangle : {n : ℕ} {d : ℕ → ℕ → ℕ} {Hop : ℕ → ℕ → ℕ → Type 0} → Least n d Hop → (k x y t : ℕ) → d x y < k → x < n → y < n → t < n → d x t ≤ d x y + d y t
triangle q zero x y t h hx hy ht = absurd (omega arith)
triangle {n} {d} {Hop} q (suc k) x y t h hx hy ht = go (λ z l hz. triangle q k z y t l hz hy ht) (q.shown x y hx hy)
  where
    go : ((z : ℕ) → d z y < k → z < n → d z t ≤ d z y + d y t) → (x ≡ y) ⊎ ((z : ℕ) × (c : ℕ) × Hop x z c × (c + d z y ≡ d x y)) → d x t ≤ d x y + d y t
    go ih (inl e) = rw e (omega arith)
    go ih (inr (z, c, m, e)) = omega (arith, q.some x z c m, q.slack x z c t ht m, ih z (omega (arith, q.some x z c m)) (q.to x z c m))

-- ---- the rows and the table

-- an arc of a list
abbrev pub HopIn : List Arc → (x z c : ℕ) → Type 0
HopIn hops x z c = (l : ℕ) × Memᴰ (arc x z c l) hops

-- what an arc that costs something and the cells of a copied table have
pub record Copy (hops : List Arc) (n : ℕ) (table cells : List ℕ) : Type 0 where
  pub few : n ≤ 64
  pub within : Within hops n
  pub some : {x z c l : ℕ} → Memᴰ (arc x z c l) hops → 0 < c
  pub small : (x t : ℕ) → x < n → t < n → area_cell n table x t ≤ 8191
  pub copied : RowsCopied n n table cells

module _ {hops : List Arc} {n : ℕ} {table heads cells : List ℕ} (q : Copy hops n table cells) (k : Kept (HopIn hops) n table heads) where
  -- a router of a set, as a hop that costs what its cell says
  abbrev Head : ℕ → ℕ → ℕ → Type 0
  Head x z c = (has (get_or heads x 0) z ≡ true) × (c ≡ area_cell n table x z)

  head_in : {x z : ℕ} → has (get_or heads x 0) z ≡ true → (x < n) × (z < n) × (0 < area_cell n table x z)
  head_in {x} {z} h = let o = k.only x z h in let m = o.1.1 in (q.within.from m, q.within.to m, omega (arith, q.some m, o.2))

  -- The rows are right. No kept arc then undercuts a cell, and each cell is shown by one, so that the triangle holds. An arc costs its cell
  -- or more, and so it does not undercut a cell either.
  module _ (rows : RowsRight n heads cells) where
    rows_least : Least n (area_cell n table) Head
    rows_least = record {
      to = λ x z c h. (head_in h.0).1;
      some = λ x z c h. omega (arith, h.1, (head_in h.0).2);
      slack = λ x z c t ht h. slack x z c t ht h (head_in h.0);
      shown = λ x t hx ht. shown x t hx ht ((rows x hx).shown t (omega (arith, q.few)));
    }
      where
        slack : (x z c t : ℕ) → t < n → Head x z c → (x < n) × (z < n) × (0 < area_cell n table x z) → area_cell n table x t ≤ c + area_cell n table z t
        slack x z c t ht (h, e) (hx, hz, _) =
            omega (arith, (rows x hx).slack z t (omega (arith, q.few)) (omega (arith, q.few)) h, q.copied.cell x t hx ht, q.copied.cell x z hx hz, q.copied.cell z t hz ht)

        shown : (x t : ℕ) → x < n → t < n → (x ≡ t) ⊎ ((area_cell 64 cells x t ≡ 16383) ⊎ ((h : ℕ) × (h < 64) × (has (get_or heads x 0) h ≡ true) × (area_cell 64 cells x h + area_cell 64 cells h t ≡ area_cell 64 cells x t))) →
            (x ≡ t) ⊎ ((z : ℕ) × (c : ℕ) × Head x z c × (c + area_cell n table z t ≡ area_cell n table x t))
        shown x t hx ht (inl e) = inl e
        shown x t hx ht (inr (inl e)) = absurd (omega (arith, q.copied.cell x t hx ht, q.small x t hx ht))
        shown x t hx ht (inr (inr (h, _, m, e))) =
            let hh = (head_in m).1 in
            inr (h, area_cell n table x h, (m, refl), omega (arith, q.copied.cell x t hx ht, q.copied.cell x h hx hh, q.copied.cell h t hh ht))

    pub rows_right : RightTable hops n table
    rows_right = record {
      diagonal = λ x h. sym (q.copied.cell x x h h) ∙ (rows x h).self;
      slack = λ {x} {z} {c} {l} t ht m. omega (arith, triangle rows_least (area_cell n table x z + 1) x z t (omega arith) (q.within.from m) (q.within.to m) ht, (k.each x z c (l, m)).0);
      shown = λ x t hx ht _. shown x t (rows_least.shown x t hx ht);
      most = λ x t hx ht. omega (arith, q.small x t hx ht);
    }
      where
        shown : (x t : ℕ) → (x ≡ t) ⊎ ((z : ℕ) × (c : ℕ) × Head x z c × (c + area_cell n table z t ≡ area_cell n table x t)) →
            (x ≡ t) ⊎ ((z : ℕ) × (c : ℕ) × (l : ℕ) × Memᴰ (arc x z c l) hops × (c + area_cell n table z t ≡ area_cell n table x t))
        shown x t (inl e) = inl e
        shown x t (inr (z, c, (h, e), s)) = let o = k.only x z h in inr (z, o.0, o.1.0, o.1.1, omega (arith, o.2))

  -- The table is right. An arc that shows a cell costs what its own cell says, since the triangle would undercut the cell if it cost more;
  -- so it is kept.
  module _ (right : RightTable hops n table) where
    right_hops : Least n (area_cell n table) (HopIn hops)
    right_hops = record {
      to = λ x z c m. q.within.to m.1;
      some = λ x z c m. q.some m.1;
      slack = λ x z c t ht m. right.slack t ht m.1;
      shown = λ x t hx ht. shown x t (right.shown x t hx ht (omega (arith, q.small x t hx ht)));
    }
      where
        shown : (x t : ℕ) → (x ≡ t) ⊎ ((z : ℕ) × (c : ℕ) × (l : ℕ) × Memᴰ (arc x z c l) hops × (c + area_cell n table z t ≡ area_cell n table x t)) →
            (x ≡ t) ⊎ ((z : ℕ) × (c : ℕ) × HopIn hops x z c × (c + area_cell n table z t ≡ area_cell n table x t))
        shown x t (inl e) = inl e
        shown x t (inr (z, c, l, m, e)) = inr (z, c, (l, m), e)

    pub right_rows : RowsRight n heads cells
    right_rows x hx = record {
      self = q.copied.cell x x hx hx ∙ right.diagonal x hx;
      slack = λ h t hh ht m. slack h t ht (k.only x h m) (dec_lt t n);
      shown = λ t ht. shown t ht (dec_lt t n);
    }
      where
        slack : (h t : ℕ) → t < 64 → (c : ℕ) × HopIn hops x h c × (c ≡ area_cell n table x h) → Dec (t < n) → area_cell 64 cells x t ≤ area_cell 64 cells x h + area_cell 64 cells h t
        slack h t ht (c, (l, m), e) (yes s) =
            let hh = q.within.to m in
            omega (arith, right.slack t s m, q.copied.cell x t hx s, q.copied.cell x h hx hh, q.copied.cell h t hh s)
        slack h t ht (c, (l, m), e) (no s) =
            omega (arith, q.copied.rest x t (omega (arith, q.few)) ht (inr (omega arith)), q.copied.rest h t (omega (arith, q.few, q.within.to m)) ht (inr (omega arith)))

        by : (t : ℕ) → t < n → (x ≡ t) ⊎ ((z : ℕ) × (c : ℕ) × HopIn hops x z c × (c + area_cell n table z t ≡ area_cell n table x t)) →
            (x ≡ t) ⊎ ((area_cell 64 cells x t ≡ 16383) ⊎ ((h : ℕ) × (h < 64) × (has (get_or heads x 0) h ≡ true) × (area_cell 64 cells x h + area_cell 64 cells h t ≡ area_cell 64 cells x t)))
        by t s (inl e) = inl e
        by t s (inr (z, c, (l, m), e)) =
            let hz = q.within.to m in
            let far = triangle right_hops (area_cell n table x z + 1) x z t (omega arith) hx hz s in
            let same : c ≡ area_cell n table x z = omega (arith, far, (k.each x z c (l, m)).0) in
            inr (inr (z, omega (arith, q.few), (k.each x z c (l, m)).1 same, omega (arith, q.copied.cell x t hx s, q.copied.cell x z hx hz, q.copied.cell z t hz s)))

        shown : (t : ℕ) → t < 64 → Dec (t < n) →
            (x ≡ t) ⊎ ((area_cell 64 cells x t ≡ 16383) ⊎ ((h : ℕ) × (h < 64) × (has (get_or heads x 0) h ≡ true) × (area_cell 64 cells x h + area_cell 64 cells h t ≡ area_cell 64 cells x t)))
        shown t ht (yes s) = by t s (right_hops.shown x t hx s)
        shown t ht (no s) = inr (inl (q.copied.rest x t (omega (arith, q.few)) ht (inr (omega arith))))
