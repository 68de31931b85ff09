-- Laws of lists made by counting up, and of tests over them.
-- Assumes nothing.
use Rattle.std.specs.Prelude.{ℕ, zero, suc, ◌+◌, ◌<◌, ◌≡◌, Bool, ◌||◌}
use Rattle.std.proofs.Math.Path.{refl, ap₂, ap}
use Rattle.std.proofs.Common.{◌∙◌, true≢false, add-one, arith}
use Rattle.std.proofs.Math.Bool.{true, false}
use mathlib.Core.List.{[], Memᴰ, List, ◌∷◌, ◌++◌, map, map-append}
use Rattle.std.proofs.Math.Decide.{ℕ_discrete}
use Rattle.lfa.specs.Lists.{every_below, keep_if, select, any_of, count_up, below}
use Rattle.lfa.proofs.Laws.List.{every_gives}

-- ---- counting up, one number more

count_more : (i n : ℕ) → count_up i (suc n) ≡ count_up i n ++ ((i + n) ∷ [])
unfolding count_up
count_more i zero = ap (λ (k : ℕ). k ∷ []) (omega arith)
count_more i (suc n) = ap (λ (l : List ℕ). i ∷ l) (count_more (suc i) n ∙ ap (λ (k : ℕ). count_up (suc i) n ++ (k ∷ [])) (omega arith))

pub below_more : (n : ℕ) → below (n + 1) ≡ below n ++ (n ∷ [])
unfolding below
below_more n = ap (count_up 0) (add-one n) ∙ count_more 0 n ∙ ap (λ (k : ℕ). count_up 0 n ++ (k ∷ [])) (omega arith)

pub map_below_more : {A : Type 0} (f : ℕ → A) (n : ℕ) → map f (below (n + 1)) ≡ map f (below n) ++ (f n ∷ [])
map_below_more f n = rw below_more (simp map-append)

-- ---- selecting, and whether one passes

module _ {A : Type 0} (p : A → Bool) where
  pub select_append : (l m : List A) → select p (l ++ m) ≡ select p l ++ select p m
  unfolding select
  select_append [] m = refl
  select_append (x ∷ l) m = go (p x) (select_append l m)
    where
      go : (b : Bool) → select p (l ++ m) ≡ select p l ++ select p m → keep_if b x (select p (l ++ m)) ≡ keep_if b x (select p l) ++ select p m
      go true rest = ap (λ (k : List A). x ∷ k) rest
      go false rest = rest

  pub any_more : (l : List A) (x : A) → any_of p (l ++ (x ∷ [])) ≡ (any_of p l || p x)
  unfolding any_of
  any_more [] x = go (p x)
    where
      go : (b : Bool) → (b || false) ≡ b
      go true = refl
      go false = refl
  any_more (y ∷ l) x = go (p y) (any_more l x)
    where
      go : (b : Bool) → any_of p (l ++ (x ∷ [])) ≡ (any_of p l || p x) → (b || any_of p (l ++ (x ∷ []))) ≡ ((b || any_of p l) || p x)
      go true rest = refl
      go false rest = rest

module _ {A : Type 0} where
  -- tests that agree on the list
  pub any_same : (p q : A → Bool) (l : List A) → ((x : A) → Memᴰ x l → p x ≡ q x) → any_of p l ≡ any_of q l
  unfolding any_of
  any_same p q [] h = refl
  any_same p q (x ∷ l) h = ap₂ (λ (a b : Bool). a || b) (h x (Memᴰ.head refl)) (any_same p q l (λ y m. h y (Memᴰ.tail m)))

  -- a test of what a list is mapped to
  pub any_map : {B : Type 0} (p : B → Bool) (f : A → B) (l : List A) → any_of p (map f l) ≡ any_of (λ x. p (f x)) l
  unfolding any_of
  any_map p f [] = refl
  any_map p f (x ∷ l) = ap (λ (b : Bool). p (f x) || b) (any_map p f l)

  pub select_same : (p q : A → Bool) (l : List A) → ((x : A) → Memᴰ x l → p x ≡ q x) → select p l ≡ select q l
  unfolding select
  select_same p q [] h = refl
  select_same p q (x ∷ l) h = ap₂ (λ (b : Bool) (k : List A). keep_if b x k) (h x (Memᴰ.head refl)) (select_same p q l (λ y m. h y (Memᴰ.tail m)))

-- ---- whether every number passes

-- one of them fails
pub every_fails : (p : ℕ → Bool) (n k : ℕ) → k < n → p k ≡ false → every_below p n ≡ false
every_fails p n k h e = go (every_below p n) refl
  where
    go : (b : Bool) → every_below p n ≡ b → b ≡ false
    go true f = absurd (true≢false (cc (every_gives p n f k h, e)))
    go false f = refl

-- and one number more passes
pub every_more : (p : ℕ → Bool) (k : ℕ) → ((j : ℕ) → j < k → p j ≡ true) → p k ≡ true → (j : ℕ) → j < k + 1 → p j ≡ true
every_more p k before this j h = go (ℕ_discrete j k)
  where
    go : Dec (j ≡ k) → p j ≡ true
    go (yes e) = ap p e ∙ this
    go (no e) = before j (omega arith)
