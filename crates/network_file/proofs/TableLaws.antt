-- Tables of what has been seen: cell r becomes true once r is seen, so that one look at the table replaces a look at each earlier
-- link or slot. Rows 7 and 9.
-- Assumes nothing.
use Prim.Native.Nat.{ℕ, ◌+◌, ◌-◌, ◌*◌, ◌<◌, min}
use mathlib.Core.Path.{◌≡◌, refl, sym, ◌∙◌}
use mathlib.Core.Bool.{Bool, true, false, not, ◌&&◌, ◌||◌}
use mathlib.Core.Logic.{◌⊎◌, inl, inr}
use mathlib.Core.List.{List}
use native.Mathlib.Omega.{arith}
use lib.Dec.{eqb}
use lib.ListN.{length, get_or, set}
use lib.Seq.{get_or-set_same, get_or-set_other}
use borrow.Author.Tests.{eqb-true, eqb-false, eq-eqb}
use Rattle.lfa.proofs.Laws.Test.{and_left, and_right, and_make, or_cases, or_left, or_right, decide, same_test}
use Rattle.network_file.specs.Entry.{pair_cell}

and_none : (p : Bool) → not (p && false) ≡ true
and_none true = refl
and_none false = refl

and_all : (p : Bool) → not (p && true) ≡ not p
and_all true = refl
and_all false = refl

-- One cell set: if cell r said that r had been seen (p: that it had not), it does so again once x is seen.
pub mark : (t : List Bool) (x r : ℕ) (p : Bool) → x < length t → get_or t r false ≡ not p → get_or (set t x true) r false ≡ not (p && not (eqb r x))
mark t x r p h e = go (decide (eqb r x))
  where
    go : (eqb r x ≡ true) ⊎ (eqb r x ≡ false) → get_or (set t x true) r false ≡ not (p && not (eqb r x))
    go (inl s) = let q : r ≡ x = eqb-true r x s in rw s (rw q (get_or-set_same t x true false h) ∙ sym (and_none p))
    go (inr s) = rw s (get_or-set_other t x r true false (eqb-false r x s) ∙ e ∙ sym (and_all p))

-- the cell of two numbers below 64 is one of 4,096
pub cell_small : (a b : ℕ) → a < 64 → b < 64 → pair_cell a b < 4096
unfolding pair_cell
cell_small a b ha hb = omega arith

-- two pairs of numbers below 64 have one cell exactly when they are the same pair, in either order
pub cell_same : (x y a b : ℕ) → x < 64 → y < 64 → a < 64 → b < 64 → eqb (pair_cell x y) (pair_cell a b) ≡ ((eqb x a && eqb y b) || (eqb x b && eqb y a))
unfolding pair_cell
cell_same x y a b hx hy ha hb = same_test _ _ to_pair (λ e. from_pair (or_cases _ _ e))
  where
    to_pair : eqb (pair_cell x y) (pair_cell a b) ≡ true → ((eqb x a && eqb y b) || (eqb x b && eqb y a)) ≡ true
    to_pair e = go (decide (eqb x a))
      where
        q : 64 * min x y + (x + y - min x y) ≡ 64 * min a b + (a + b - min a b)
        q = eqb-true _ _ e

        go : (eqb x a ≡ true) ⊎ (eqb x a ≡ false) → ((eqb x a && eqb y b) || (eqb x b && eqb y a)) ≡ true
        go (inl s) =
            let p : x ≡ a = eqb-true x a s in
            or_left _ _ (and_make _ _ s (eq-eqb y b (omega (arith, q))))
        go (inr s) =
            let p : x ≡ a → ⊥ = eqb-false x a s in
            or_right (eqb x a && eqb y b) _ (and_make _ _ (eq-eqb x b (omega (arith, q))) (eq-eqb y a (omega (arith, q))))

    from_pair : ((eqb x a && eqb y b) ≡ true) ⊎ ((eqb x b && eqb y a) ≡ true) → eqb (pair_cell x y) (pair_cell a b) ≡ true
    from_pair (inl e) =
        let p : x ≡ a = eqb-true x a (and_left _ _ e) in
        let q : y ≡ b = eqb-true y b (and_right (eqb x a) _ e) in
        eq-eqb (pair_cell x y) (pair_cell a b) (omega arith)
    from_pair (inr e) =
        let p : x ≡ b = eqb-true x b (and_left _ _ e) in
        let q : y ≡ a = eqb-true y a (and_right (eqb x b) _ e) in
        eq-eqb (pair_cell x y) (pair_cell a b) (omega arith)
