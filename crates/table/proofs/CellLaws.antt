-- The places of cells, what stands for a cell in sums, and the cells of two lists that are the same.
-- Assumes nothing.
use Prim.Native.Nat.{ℕ, ◌+◌, ◌*◌, ◌/◌, ◌%◌, ◌≤◌, ◌<◌, min}
use mathlib.Core.Path.{◌≡◌, sym, ap, ◌∙◌}
use mathlib.Core.Bool.{Bool}
use mathlib.Core.Logic.{⊎_elim, ◌↔◌}
use mathlib.Core.List.{List}
use native.Mathlib.Omega.{arith}
use native.Mathlib.Nat.{lt_of_lt_of_le, mul-le-mul}
use native.Mathlib.Decide.{dec_lt}
use lib.Arith.{digits_lt, digits_div, digits_mod}
use lib.Dec.{eqb}
use lib.ListN.{length, get_or, take}
use Rattle.std.specs.Cmp.Lexicographic.{pointwise}
use Rattle.std.proofs.lemmas.Slice.Eq.{slice_eq-Decides}
use Rattle.std.proofs.lemmas.Bool.Decides.{Decides-eqb}
use Rattle.std.proofs.lemmas.List.{length-take-le, get_or-take, ext_get_or}
use Rattle.lfa.specs.Distance.{unreachable}
use Rattle.table.specs.Sums.{Form, largest, form32, Real, finite, infinite, Stands, real, wrong, Copied, Summands, SameCells}

-- ---- the place x * w + t

pub cell_few : {w x t : ℕ} → w ≤ 64 → x < w → t < w → x * w + t < 4096
cell_few h hx ht = lt_of_lt_of_le (digits_lt hx ht) (mul-le-mul h h)

-- two cells at one place are one
pub one_place : {w x t a b : ℕ} → t < w → b < w → x * w + t ≡ a * w + b → (x ≡ a) × (t ≡ b)
one_place {w} {x} {t} {a} {b} ht hb e =
    (sym (digits_div x ht) ∙ ap (λ (i : ℕ). i / w) e ∙ digits_div a hb, sym (digits_mod x ht) ∙ ap (λ (i : ℕ). i % w) e ∙ digits_mod a hb)

-- ---- what stands for a cell

-- What the numbers of a form have to be: the limit is above each sum of a hop and a finite cell, unreachable above each such sum of the
-- table, and each hop counts as what it costs.
pub record Sized (f : Form) : Type 0 where
  pub gap : f.top + f.longest < f.limit
  pub fits : f.longest + 65535 < unreachable
  pub whole : 65535 ≤ f.top

pub sized32 : (n : ℕ) → Sized (form32 n)
sized32 n = record { gap = omega arith; fits = omega arith; whole = omega arith }

-- a cell that is small where it is finite may be a distance
pub stands_real : {longest limit d s : ℕ} → d ≤ unreachable → (d < unreachable → d ≤ largest) → Stands longest limit d s → Real longest limit d s
stands_real most small (real r) = r
stands_real {longest} {limit} {d} {s} most small (wrong k n e) = go (dec_lt d unreachable)
  where
    go : Dec (d < unreachable) → Real longest limit d s
    go (yes h) = absurd (omega (arith, small h))
    go (no h) = absurd (n (omega arith))

module _ {f : Form} {d s : ℕ} (z : Sized f) where
  pub real_most : Real f.longest f.limit d s → (d ≤ unreachable) × (s ≤ f.limit)
  real_most (finite h e) = omega arith
  real_most (infinite h e) = omega arith

  pub real_zero : Real f.longest f.limit d s → (d ≡ 0) ↔ (s ≡ 0)
  real_zero (finite h e) = (λ k. omega arith, λ k. omega arith)
  real_zero (infinite h e) = (λ k. absurd (omega arith), λ k. absurd (omega arith))

  pub real_finite : Real f.longest f.limit d s → (d < unreachable) ↔ (s < f.limit)
  real_finite (finite h e) = (λ k. omega arith, λ k. omega arith)
  real_finite (infinite h e) = (λ k. absurd (omega arith), λ k. absurd (omega arith))

  -- An arc that costs c leads from cell d to cell e. It undercuts d exactly where it undercuts what stands for d, and is tight for a finite
  -- d exactly where it is for what stands for d.
  pub real_slack : {c e u : ℕ} → c ≤ 65535 → Real f.longest f.limit d s → Real f.longest f.limit e u → (d ≤ c + e) ↔ (s ≤ min c f.top + u)
  real_slack {c} {e} {u} k p q = go p q
    where
      go : Real f.longest f.limit d s → Real f.longest f.limit e u → (d ≤ c + e) ↔ (s ≤ min c f.top + u)
      go (finite h i) (finite h' i') = (λ g. omega arith, λ g. omega arith)
      go (finite h i) (infinite h' i') = (λ g. omega arith, λ g. omega arith)
      go (infinite h i) (finite h' i') = (λ g. absurd (omega arith), λ g. absurd (omega arith))
      go (infinite h i) (infinite h' i') = (λ g. omega arith, λ g. omega arith)

  pub real_tight : {c e u : ℕ} → c ≤ 65535 → d < unreachable → Real f.longest f.limit d s → Real f.longest f.limit e u → (c + e ≡ d) ↔ (min c f.top + u ≡ s)
  real_tight {c} {e} {u} k g p q = go p q
    where
      go : Real f.longest f.limit d s → Real f.longest f.limit e u → (c + e ≡ d) ↔ (min c f.top + u ≡ s)
      go (finite h i) (finite h' i') = (λ e. omega arith, λ e. omega arith)
      go (finite h i) (infinite h' i') = (λ e. absurd (omega arith), λ e. absurd (omega arith))
      go (infinite h i) _ = absurd (omega arith)

-- ---- cells for sums of 32 bits

pub summands_copied : {n : ℕ} {cells : List ℕ} (table : List ℕ) → n * n ≤ length table → Summands (length (take (n * n) table)) (take (n * n) table) cells →
    Copied (form32 n) n table cells
summands_copied {n} table long q = record {
  few = omega arith;
  stands = λ x t hx ht.
      let h : x * n + t < n * n = digits_lt hx ht in
      rw (get_or-take (n * n) table (x * n + t) 0 h) at (q.cell (x * n + t) (omega (arith, h, length-take-le (n * n) table long)));
  rest = λ x t hx ht o. ⊎_elim (λ h. absurd (omega arith)) (λ h. absurd (omega arith)) o;
}

-- ---- the cells of two lists that are the same

-- what `==` says of two lists of n numbers
same_lists : {n : ℕ} (xs ys : List ℕ) (f g : ℕ → ℕ) {r : Bool} → length xs ≡ n → length ys ≡ n → ((i : ℕ) → i < n → get_or xs i 0 ≡ f i) → ((i : ℕ) → i < n → get_or ys i 0 ≡ g i) →
    r ≡ pointwise eqb xs ys → SameCells n f g r
same_lists {n} xs ys f g {r} hx hy ex ey e =
    let d = slice_eq-Decides Decides-eqb xs ys r e in
    record {
      holds = λ t i h. sym (ex i h) ∙ ap (λ (l : List ℕ). get_or l i 0) (d.0 t) ∙ ey i h;
      told = λ s. d.1 (ext_get_or 0 xs ys (hx ∙ sym hy) (λ i h. let k : i < n = omega arith in ex i k ∙ s i k ∙ sym (ey i k)));
    }

pub firsts_same : {n : ℕ} (cells sums : List ℕ) {r : Bool} → n ≤ length cells → n ≤ length sums → r ≡ pointwise eqb (take n cells) (take n sums) → SameCells n (λ i. get_or cells i 0) (λ i. get_or sums i 0) r
firsts_same {n} cells sums hc hs e =
    same_lists (take n cells) (take n sums) (λ i. get_or cells i 0) (λ i. get_or sums i 0) (length-take-le n cells hc) (length-take-le n sums hs) (λ i h. get_or-take n cells i 0 h) (λ i h. get_or-take n sums i 0 h) e
