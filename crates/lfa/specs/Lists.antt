-- Lists and tests that the definitions compute with.
-- Assumes nothing.
use Rattle.std.specs.Prelude.{ℕ, zero, suc, ◌+◌, ◌≤◌, ◌<◌, ◌≡◌, Bool, true, false, ◌&&◌, ◌||◌, List, [], ◌∷◌, ◌++◌, map, eqb, get_or}
use Rattle.std.proofs.Math.Option.{Option, none, some}

-- n numbers, counting up from i
unfoldable pub count_up : ℕ → ℕ → List ℕ
count_up i zero = []
count_up i (suc n) = i ∷ count_up (suc i) n

-- 0, 1, .., n - 1
unfoldable pub below : ℕ → List ℕ
below n = count_up 0 n

-- x in front of xs where the test passes
abbrev pub keep_if {ℓ} : {A : Type ℓ} → Bool → A → List A → List A
keep_if true x xs = x ∷ xs
keep_if false x xs = xs

-- the elements that pass a test, in order
unfoldable pub select {ℓ} : {A : Type ℓ} → (A → Bool) → List A → List A
select p [] = []
select p (x ∷ xs) = keep_if (p x) x (select p xs)

-- some element passes the test
unfoldable pub any_of {ℓ} : {A : Type ℓ} → (A → Bool) → List A → Bool
any_of p [] = false
any_of p (x ∷ l) = p x || any_of p l

-- every number below n passes the test
unfoldable pub every_below : (ℕ → Bool) → ℕ → Bool
every_below p zero = true
every_below p (suc n) = every_below p n && p n

-- the number is in the list
unfoldable pub member_of : ℕ → List ℕ → Bool
member_of x l = any_of (eqb x) l

-- one list after the other
unfoldable pub flat {ℓ} : {A : Type ℓ} → List (List A) → List A
flat [] = []
flat (l ∷ ls) = l ++ flat ls

-- 1 where a test passes
abbrev pub one : Bool → ℕ
one true = 1
one false = 0

-- how many of the numbers below n pass a test
unfoldable pub count : (ℕ → Bool) → ℕ → ℕ
count p zero = 0
count p (suc n) = one (p n) + count p n

-- k of the numbers below n have a property
pub data HowMany (P : ℕ → Type 0) : ℕ → ℕ → Type 0 where
  nothing : HowMany P 0 0
  one_more : {n k : ℕ} → P n → HowMany P n k → HowMany P (suc n) (suc k)
  no_more : {n k : ℕ} → (P n → ⊥) → HowMany P n k → HowMany P (suc n) k

-- the first of n numbers, counting from i, at which a test fails
unfoldable pub first_failing : (ℕ → Bool) → ℕ → ℕ → Option ℕ
first_failing good i zero = none
first_failing good i (suc n) = elim (good i) [ true ↦ first_failing good (suc i) n | false ↦ some i ]

-- k is the first of n numbers, counting from i, at which a test fails
pub record FirstFails (good : ℕ → Bool) (i n k : ℕ) : Type 0 where
  pub from : i ≤ k
  pub to : k < i + n
  pub fails : good k ≡ false
  pub before : (j : ℕ) → i ≤ j → j < k → good j ≡ true

-- the value, unless the test passes
unfoldable pub unless : Bool → ℕ → Option ℕ
unless true value = none
unless false value = some value

-- rows of cells
abbrev pub Table : Type 0
Table = List (List ℕ)

-- n rows of n cells
unfoldable pub table : ℕ → (ℕ → ℕ → ℕ) → Table
table n f = map (λ i. map (f i) (below n)) (below n)

-- the cell of row i and column j, and `other` outside the table
unfoldable pub cell : ℕ → Table → ℕ → ℕ → ℕ
cell other t i j = get_or (get_or t i []) j other
