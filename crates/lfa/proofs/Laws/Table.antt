-- A table holds what it was made from, and `other` outside.
-- Assumes nothing.
use Rattle.std.specs.Prelude.{ℕ, ◌+◌, ◌≤◌, ◌<◌, ◌≡◌, ◌⊎◌, List, [], map, true, false, get_or, ltb}
use Rattle.std.proofs.Common.{ap, ◌∙◌, inl, inr, zero-add, ltb-true, ltb-false}
use Rattle.lfa.proofs.Laws.Test.{decide}
use Rattle.lfa.proofs.Laws.Counting.{counted, counted_out}
use Rattle.lfa.specs.Lists.{count_up, below, table, cell}

pub cell_in_lem : (other n : ℕ) (f : ℕ → ℕ → ℕ) (i j : ℕ) → i < n → j < n → cell other (table n f) i j ≡ f i j
unfolding cell table below
cell_in_lem other n f i j hi hj = ap (λ (r : List ℕ). get_or r j other) (counted (λ i. map (f i) (count_up 0 n)) [] 0 n i hi) ∙ counted (f (0 + i)) other 0 n j hj ∙ simp zero-add

pub cell_out_row : (other n : ℕ) (f : ℕ → ℕ → ℕ) (i j : ℕ) → n ≤ i → cell other (table n f) i j ≡ other
unfolding cell table below
cell_out_row other n f i j h = ap (λ (r : List ℕ). get_or r j other) (counted_out (λ i. map (f i) (count_up 0 n)) [] 0 n i h)

pub cell_out_column : (other n : ℕ) (f : ℕ → ℕ → ℕ) (i j : ℕ) → i < n → n ≤ j → cell other (table n f) i j ≡ other
unfolding cell table below
cell_out_column other n f i j hi hj = ap (λ (r : List ℕ). get_or r j other) (counted (λ i. map (f i) (count_up 0 n)) [] 0 n i hi) ∙ counted_out (f (0 + i)) other 0 n j hj

-- outside the table, in either direction
pub cell_out : (other n : ℕ) (f : ℕ → ℕ → ℕ) (i j : ℕ) → (n ≤ i) ⊎ (n ≤ j) → cell other (table n f) i j ≡ other
cell_out other n f i j (inl o) = cell_out_row other n f i j o
cell_out other n f i j (inr o) = go (decide (ltb i n))
  where
    go : (ltb i n ≡ true) ⊎ (ltb i n ≡ false) → cell other (table n f) i j ≡ other
    go (inl t) = cell_out_column other n f i j (ltb-true i n t) o
    go (inr t) = cell_out_row other n f i j (ltb-false i n t)
