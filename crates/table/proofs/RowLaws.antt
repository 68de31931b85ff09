-- The sums of one row over the routers of a set, router by router.
-- Assumes nothing.
use Prim.Native.Nat.{ℕ, ◌+◌, ◌-◌, ◌≤◌, ◌<◌}
use mathlib.Core.Path.{◌≡◌, sym, ap, ◌∙◌}
use mathlib.Core.Logic.{◌⊎◌, inl, inr}
use mathlib.Core.Bool.{Bool, true, false≢true}
use mathlib.Core.List.{List}
use native.Mathlib.Omega.{arith}
use native.Mathlib.Decide.{ℕ_discrete, dec_lt}
use Rattle.std.proofs.lemmas.List.{drop-set-add, drop-replicate, take-replicate}
use Rattle.std.proofs.Math.Seq.{take-set-lt}
use lib.ListN.{get_or, set, take, drop, replicate, length-set, length-replicate, get_or-replicate}
use lib.Seq.{get_or-set_same, get_or-set_other}
use Rattle.lfa.specs.Space.{has}
use Rattle.metric.specs.Area.{area_cell}
use Rattle.metric.proofs.Laws.Set.{has_none}
use Rattle.table.specs.Sums.{Same, SameCells}
use Rattle.table.specs.Rows.{Little, LittleRow, SumsLowered, RowRight, RowTested, RowsRight}
use Rattle.table.proofs.BitLaws.{Taken}

-- ---- one row

-- a router of the set shows sum t of row x
abbrev Shows : (x heads : ℕ) → (cells : List ℕ) → (v t : ℕ) → Type 0
Shows x heads cells v t = (x ≡ t) ⊎ ((v ≡ 16383) ⊎ ((h : ℕ) × (h < 64) × (has heads h ≡ true) × (area_cell 64 cells x h + area_cell 64 cells h t ≡ v)))

-- the least sums of row x over the routers of a set but those that are left
pub record RowSums (x heads left : ℕ) (cells sums : List ℕ) : Type 0 where
  pub little : LittleRow sums
  pub self : get_or sums x 0 ≡ 0
  pub stays : (h : ℕ) → has left h ≡ true → has heads h ≡ true
  pub bound : (h t : ℕ) → t < 64 → has heads h ≡ true → (has left h ≡ true) ⊎ (get_or sums t 0 ≤ area_cell 64 cells x h + area_cell 64 cells h t)
  pub shown : (t : ℕ) → t < 64 → Shows x heads cells (get_or sums t 0) t

abbrev limits : List ℕ
limits = replicate 64 16383

-- 64 numbers, read from place 64 - x on of 128 with a 0 at place 64: the 0 is at place x
pub window : {x : ℕ} → x < 64 → take 64 (drop (64 - x) (set (replicate 128 16383) 64 0)) ≡ set limits x 0
window {x} h =
    let at : 64 ≡ 64 - x + x = omega arith in
    ap (λ (i : ℕ). take 64 (drop (64 - x) (set (replicate 128 16383) i 0))) at
    ∙ ap (λ (l : List ℕ). take 64 l) (drop-set-add (64 - x) (replicate 128 16383) x 0 ∙ ap (λ (l : List ℕ). set l x 0) (drop-replicate (64 - x) 128 16383))
    ∙ take-set-lt 64 (replicate (128 - (64 - x)) 16383) x 0 h ∙ ap (λ (l : List ℕ). set l x 0) (take-replicate 64 (128 - (64 - x)) 16383 (omega arith))

module _ {x heads : ℕ} (cells : List ℕ) where
  pub sums_first : x < 64 → RowSums x heads heads cells (set limits x 0)
  sums_first hx = record {
    little = record { long = length-set limits x 0 ∙ length-replicate {A = ℕ} 64 16383; most = λ t h. most t h (ℕ_discrete t x) };
    self = get_or-set_same limits x 0 0 hx;
    stays = λ h e. e;
    bound = λ h t ht e. inl e;
    shown = λ t h. shown t h (ℕ_discrete t x);
  }
    where
      kept : (t : ℕ) → t < 64 → (t ≡ x → ⊥) → get_or (set limits x 0) t 0 ≡ 16383
      kept t h e = get_or-set_other limits x t 0 0 e ∙ get_or-replicate 64 t 16383 0 h

      most : (t : ℕ) → t < 64 → Dec (t ≡ x) → get_or (set limits x 0) t 0 ≤ 16383
      most t h (yes e) = rw e (omega (arith, get_or-set_same limits x 0 0 hx))
      most t h (no e) = omega (arith, kept t h e)

      shown : (t : ℕ) → t < 64 → Dec (t ≡ x) → Shows x heads cells (get_or (set limits x 0) t 0) t
      shown t h (yes e) = inl (sym e)
      shown t h (no e) = inr (inl (kept t h e))

  -- one router more
  pub sums_next : {left less head cost : ℕ} {before after : List ℕ} → x < 64 → RowSums x heads left cells before → Taken left less head → cost ≡ area_cell 64 cells x head →
      SumsLowered cost head 64 cells before after → RowSums x heads less cells after
  sums_next {left} {less} {head} {cost} {before} {after} hx q k e s = record {
    little = record { long = s.long ∙ q.little.long; most = λ t h. omega (arith, s.low t h, q.little.most t h) };
    self = omega (arith, s.low x hx, q.self);
    stays = λ h m. q.stays h (k.stays h m);
    bound = λ h t ht m. bound h t ht (q.bound h t ht m);
    shown = λ t h. shown t h (dec_lt (cost + area_cell 64 cells head t) (get_or before t 0)) (q.shown t h);
  }
    where
      split : (h t : ℕ) → t < 64 → (h ≡ head) ⊎ (has less h ≡ true) → (has less h ≡ true) ⊎ (get_or after t 0 ≤ area_cell 64 cells x h + area_cell 64 cells h t)
      split h t ht (inl f) = inr (rw f (omega (arith, s.low t ht)))
      split h t ht (inr m) = inl m

      bound : (h t : ℕ) → t < 64 → (has left h ≡ true) ⊎ (get_or before t 0 ≤ area_cell 64 cells x h + area_cell 64 cells h t) → (has less h ≡ true) ⊎ (get_or after t 0 ≤ area_cell 64 cells x h + area_cell 64 cells h t)
      bound h t ht (inl m) = split h t ht (k.split h m)
      bound h t ht (inr l) = inr (omega (arith, s.low t ht))

      shown : (t : ℕ) → t < 64 → Dec (cost + area_cell 64 cells head t < get_or before t 0) → Shows x heads cells (get_or before t 0) t → Shows x heads cells (get_or after t 0) t
      shown t ht (yes l) _ = inr (inr (head, k.in_row, q.stays head k.member, omega (arith, s.low t ht)))
      shown t ht (no l) o = let same : get_or after t 0 ≡ get_or before t 0 = omega (arith, s.low t ht) in rw same o

  -- The sums over the whole set. Where the row is the sums, it is right; and where it is right, it is neither above the sums, since no router
  -- undercuts it, nor below them, since some router shows it.
  pub sums_told : {sums : List ℕ} {r : Bool} → x < 64 → Little cells → RowSums x heads 0 cells sums → SameCells 64 (area_cell 64 cells x) (λ t. get_or sums t 0) r → RowTested x heads cells r
  sums_told {sums} {r} hx little q s = record { right = λ e. right (s.holds e); passes = λ w. s.told (λ t h. same w t h) }
    where
      all : (h t : ℕ) → t < 64 → has heads h ≡ true → get_or sums t 0 ≤ area_cell 64 cells x h + area_cell 64 cells h t
      all h t ht m = go (q.bound h t ht m)
        where
          go : (has 0 h ≡ true) ⊎ (get_or sums t 0 ≤ area_cell 64 cells x h + area_cell 64 cells h t) → get_or sums t 0 ≤ area_cell 64 cells x h + area_cell 64 cells h t
          go (inl e) = absurd (false≢true (sym (has_none h) ∙ e))
          go (inr l) = l

      right : Same 64 (area_cell 64 cells x) (λ t. get_or sums t 0) → RowRight x heads cells
      right e = record {
        self = e x hx ∙ q.self;
        slack = λ h t hh ht m. omega (arith, e t ht, all h t ht m);
        shown = λ t ht. rw (e t ht) (q.shown t ht);
      }

      same : RowRight x heads cells → (t : ℕ) → t < 64 → area_cell 64 cells x t ≡ get_or sums t 0
      same w t ht = go (w.shown t ht) (q.shown t ht)
        where
          go : Shows x heads cells (area_cell 64 cells x t) t → Shows x heads cells (get_or sums t 0) t → area_cell 64 cells x t ≡ get_or sums t 0
          go (inl e) _ = rw (← e) (omega (arith, w.self, q.self))
          go (inr _) (inl e) = rw (← e) (omega (arith, w.self, q.self))
          go (inr (inl a)) (inr (inl b)) = omega arith
          go (inr (inl a)) (inr (inr (h, hh, m, b))) = omega (arith, q.little.most t ht, w.slack h t hh ht m)
          go (inr (inr (g, _, l, a))) (inr (inl b)) = omega (arith, little x t hx ht, all g t ht l)
          go (inr (inr (g, _, l, a))) (inr (inr (h, hh, m, b))) = omega (arith, w.slack h t hh ht m, all g t ht l)

-- ---- the rows

module _ (heads cells : List ℕ) where
  pub all_more : (m : ℕ) → RowsRight m heads cells → RowRight m (get_or heads m 0) cells → RowsRight (m + 1) heads cells
  all_more m q row x h = go (ℕ_discrete x m)
    where
      go : Dec (x ≡ m) → RowRight x (get_or heads x 0) cells
      go (yes e) = rw e row
      go (no e) = q x (omega arith)
