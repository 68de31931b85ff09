-- Columns: a column is filled one cell after the other, its cells, and columns of several cells to an element.
-- Assumes nothing.
use Prim.Native.Nat.{ℕ, zero, suc, ◌+◌, ◌-◌, ◌*◌, ◌/◌, ◌%◌, ◌≤◌, ◌<◌}
use mathlib.Core.Path.{◌≡◌, refl, sym, ap, ◌∙◌}
use mathlib.Core.List.{List, [], ◌∷◌, ◌++◌, map, map-map, map-append, append_assoc, append-nil}
use mathlib.Core.Bool.{true, false}
use mathlib.Core.Logic.{◌⊎◌, inl, inr}
use native.Mathlib.Omega.{arith}
use native.Mathlib.Nat.{add-zero, zero-add}
use native.Mathlib.Numerals.{add-one}
use lib.ListN.{length, get_or, set, replicate, length-append, length-replicate, get_or-append}
use lib.Dec.{ltb}
use lib.Seq.{set_at, get_or-append-add, ext_get_or}
use borrow.Author.Tests.{ltb-true, ltb-false}
use Rattle.lfa.specs.Lists.{count_up, below, flat}
use Rattle.lfa.specs.FileOf.{pad}
use Rattle.lfa.proofs.Laws.Counting.{length_map_below, map_below_at, map_below_same}
use Rattle.lfa.proofs.Laws.Test.{decide}
use Rattle.lfa.proofs.Laws.Chunks.{part_element, length_flat, part_flat}
use Rattle.network_file.specs.Struct.{column, stored}

-- ---- one number more

counted_more : (i n : ℕ) → count_up i (suc n) ≡ count_up i n ++ (i + n) ∷ []
unfolding count_up
counted_more i zero = rw add-zero
counted_more i (suc n) =
    let e : i + suc n ≡ suc i + n = omega arith in
    ap {B = List ℕ} (λ l. i ∷ l) (rw e (counted_more (suc i) n))

-- the numbers below n + 1 are those below n, and n
pub below_more : (n : ℕ) → below (n + 1) ≡ below n ++ n ∷ []
unfolding below
below_more n = rw (add-one n, counted_more 0 n, zero-add)

pub map_below_more : {A : Type 0} (f : ℕ → A) (n : ℕ) → map f (below (n + 1)) ≡ map f (below n) ++ f n ∷ []
map_below_more f n = rw (below_more n, map-append)

-- ---- filling a column

pub column_none : (size : ℕ) (f : ℕ → ℕ) → replicate size 0 ≡ column size 0 f
unfolding column pad below count_up
column_none size f = let e : size - 0 ≡ size = omega arith in rw e

-- a column is made of its n numbers and the zeros after them
column_parts : (size n : ℕ) (f : ℕ → ℕ) → column size n f ≡ map f (below n) ++ replicate (size - n) 0
unfolding column pad
column_parts size n f = rw (length_map_below f n)

-- One store more: where the first i cells are filled and the rest is zero, storing f i at cell i fills the first i + 1.
pub column_more : (size i : ℕ) (f : ℕ → ℕ) → i < size → set (column size i f) i (f i) ≡ column size (i + 1) f
column_more size i f h =
    let e : size - i ≡ suc (size - (i + 1)) = omega arith in
    rw (column_parts size i f, column_parts size (i + 1) f, e, set_at (map f (below i)) _ _ (f i) i (length_map_below f i), map_below_more f i, append_assoc)

-- the same for an invariant's list and for a value that is the column's
pub more : {size i v : ℕ} {d : List ℕ} (f : ℕ → ℕ) → i < size → d ≡ column size i f → v ≡ f i → set d i v ≡ column size (i + 1) f
more {size} {i} f h e q = rw (e, q) (column_more size i f h)

-- ---- several stores, one after the other

pub stored_none : (k : ℕ) (f : ℕ → ℕ) (cells : List ℕ) → cells ≡ stored k 0 f cells
unfolding stored
stored_none k f cells = refl

-- one store more
pub stored_more : (k n : ℕ) {v : ℕ} {d : List ℕ} (f : ℕ → ℕ) (cells : List ℕ) → d ≡ stored k n f cells → v ≡ f n → set d (k + n) v ≡ stored k (n + 1) f cells
unfolding stored
stored_more k n f cells e q = rw (add-one n, stored, e, q)

-- stores of the numbers that come next in a column
pub stored_column : (size k n : ℕ) (f g : ℕ → ℕ) → k + n ≤ size → ((s : ℕ) → s < n → g s ≡ f (k + s)) → stored k n g (column size k f) ≡ column size (k + n) f
unfolding stored
stored_column size k zero f g h same = rw add-zero
stored_column size k (suc n) f g h same =
    let e : k + suc n ≡ k + n + 1 = omega arith in
    rw (stored_column size k n f g (omega arith) (λ s l. same s (omega arith)), same n (omega arith), e) (column_more size (k + n) f (omega arith))

-- ---- its cells

zeros_cell : (n k : ℕ) → ◌≡◌ {A = ℕ} (get_or (replicate n 0) k 0) 0
zeros_cell zero k = refl
zeros_cell (suc n) zero = refl
zeros_cell (suc n) (suc k) = zeros_cell n k

pub column_cell : (size n : ℕ) (f : ℕ → ℕ) (k : ℕ) → k < n → get_or (column size n f) k 0 ≡ f k
column_cell size n f k h =
    let l : k < length (map f (below n)) = rw (length_map_below f n) h in
    rw (column_parts size n f) (get_or-append (map f (below n)) _ 0 k l ∙ map_below_at f 0 n k h)

-- a column of one number of each element
pub column_map : {A : Type 0} (size n : ℕ) (g : A → ℕ) (h : ℕ → A) → column size n (λ k. g (h k)) ≡ pad size (map g (map h (below n)))
unfolding column
column_map size n g h = ap (pad size) (sym (map-map g h (below n)))

-- a cell past the numbers is zero
pub column_rest : (size n : ℕ) (f : ℕ → ℕ) (k : ℕ) → n ≤ k → get_or (column size n f) k 0 ≡ 0
column_rest size n f k h =
    let l : length (map f (below n)) ≡ n = length_map_below f n in
    let e : k ≡ length (map f (below n)) + (k - n) = omega arith in
    rw (column_parts size n f, e, get_or-append-add (map f (below n)) (replicate (size - n) 0) (k - n) 0) (zeros_cell (size - n) (k - n))

pub column_length : (size n : ℕ) (f : ℕ → ℕ) → n ≤ size → length (column size n f) ≡ size
column_length size n f h = rw (column_parts size n f) (simp (length-append, length_map_below, length-replicate) (omega arith))

-- two functions that agree on the numbers listed give one column
pub column_same : (size n : ℕ) (f g : ℕ → ℕ) → ((k : ℕ) → k < n → f k ≡ g k) → column size n f ≡ column size n g
unfolding column
column_same size n f g h = ap (pad size) (map_below_same f g n h)

-- a function that is zero from n on gives one list, whether its zeros are listed or filled in
pub column_full : (size n : ℕ) (f : ℕ → ℕ) → n ≤ size → ((k : ℕ) → n ≤ k → k < size → f k ≡ 0) → column size n f ≡ map f (below size)
column_full size n f h zeros =
    ext_get_or 0 (column size n f) (map f (below size)) (column_length size n f h ∙ sym (length_map_below f size)) (λ k l.
    let m : k < size = omega (arith, column_length size n f h) in
    cell k m (decide (ltb k n)) ∙ sym (map_below_at f 0 size k m))
  where
    cell : (k : ℕ) → k < size → (ltb k n ≡ true) ⊎ (ltb k n ≡ false) → get_or (column size n f) k 0 ≡ f k
    cell k m (inl t) = column_cell size n f k (ltb-true k n t)
    cell k m (inr t) = let q : n ≤ k = ltb-false k n t in column_rest size n f k q ∙ sym (zeros k q m)

-- ---- eight cells to an element

-- Eight cells for each element, one list after the other, are the cells by one number: element k / 8, cell k % 8.
-- Both lists have 8 × n cells, and cell k of the first is cell k % 8 of the list number k / 8.
pub eights : (h : ℕ → ℕ → ℕ) (n : ℕ) → flat (map (λ p. map (h p) (below 8)) (below n)) ≡ map (λ k. h (k / 8) (k % 8)) (below (8 * n))
eights h n =
    sym (append-nil (flat lists))
    ∙ ext_get_or 0 (flat lists ++ []) (map (λ k. h (k / 8) (k % 8)) (below (8 * n))) (long ∙ sym (length_map_below _ (8 * n))) (λ k l.
    let m : k < 8 * n = omega (arith, long) in
    cell k m ∙ sym (map_below_at (λ k. h (k / 8) (k % 8)) 0 (8 * n) k m))
  where
    lists : List (List ℕ)
    lists = map (λ p. map (h p) (below 8)) (below n)

    count : length lists ≡ n
    count = length_map_below (λ p. map (h p) (below 8)) n

    list_at : (i : ℕ) → i < n → get_or lists i [] ≡ map (h i) (below 8)
    list_at i l = map_below_at (λ p. map (h p) (below 8)) [] n i l

    each : (i : ℕ) → i < length lists → length (get_or lists i []) ≡ 8
    each i l = ap length (list_at i (omega (arith, count))) ∙ length_map_below (h i) 8

    long : length (flat lists ++ []) ≡ 8 * n
    long = ap length (append-nil (flat lists)) ∙ length_flat 8 lists each ∙ ap (λ (m : ℕ). 8 * m) count

    cell : (k : ℕ) → k < 8 * n → get_or (flat lists ++ []) k 0 ≡ h (k / 8) (k % 8)
    cell k l =
        let e : k ≡ 8 * (k / 8) + k % 8 = omega arith in
        let i : k / 8 < n = omega arith in
        ap (λ (m : ℕ). get_or (flat lists ++ []) m 0) e
        ∙ sym (part_element (flat lists ++ []) (8 * (k / 8)) 8 (k % 8) 0 (omega arith))
        ∙ ap (λ (l : List ℕ). get_or l (k % 8) 0) (part_flat 8 lists [] each (k / 8) (omega (arith, count)) ∙ list_at (k / 8) i)
        ∙ map_below_at (h (k / 8)) 0 8 (k % 8) (omega arith)
