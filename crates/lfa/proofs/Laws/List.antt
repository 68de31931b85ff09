-- Laws of the lists that the definitions compute with: what a test of some element or of every number tells, which numbers are below n,
-- which elements pass a test, what a map and a list of lists hold. For each list one law says what its members are (`-gives`), and one
-- how to show that something is a member (`-make`).
-- Assumes nothing.
use Rattle.std.specs.Prelude.{ℕ, zero, suc, ◌+◌, ◌≤◌, ◌<◌, ◌≡◌, ◌⊎◌, Bool, eqb, get_or, length}
use Rattle.std.proofs.Math.Path.{refl}
use Rattle.std.proofs.Common.{ap, inl, inr, arith, not-suc-le-zero, le_of_suc-le-suc, eq-or-lt_of_le, eqb-true, eq-eqb}
use Rattle.std.proofs.Math.Bool.{true, false}
use Rattle.std.proofs.lemmas.Bool.{false≢true, eqb-false}
use mathlib.Core.List.Memᴰ
use mathlib.Core.List.{List, [], ◌∷◌, map, Memᴰ}
use Rattle.lfa.proofs.Laws.Test.{and_left, and_right, and_make, or_cases, or_left, or_right, decide}
use Rattle.lfa.specs.Lists.{count_up, below, select, keep_if, any_of, every_below, member_of, flat}

-- ---- some element passes a test

module _ {A : Type 0} (p : A → Bool) where
  pub any_gives : (l : List A) → any_of p l ≡ true → (a : A) × Memᴰ a l × (p a ≡ true)
  unfolding any_of
  any_gives [] e = absurd (false≢true e)
  any_gives (x ∷ l) e = go (any_gives l) (or_cases (p x) (any_of p l) e)
    where
      go : (any_of p l ≡ true → (a : A) × Memᴰ a l × (p a ≡ true)) → (p x ≡ true) ⊎ (any_of p l ≡ true) → (a : A) × Memᴰ a (x ∷ l) × (p a ≡ true)
      go rest (inl t) = (x, Memᴰ.head refl, t)
      go rest (inr t) = let r = rest t in (r.0, Memᴰ.tail r.1, r.2)

  pub any_make : {a : A} {l : List A} → Memᴰ a l → p a ≡ true → any_of p l ≡ true
  unfolding any_of
  any_make (Memᴰ.head {x} {xs} e) t = or_left (p x) (any_of p xs) (rw e at t)
  any_make (Memᴰ.tail {x} {xs} m) t = or_right (p x) (any_of p xs) (any_make m t)

-- ---- the numbers below n

counted_below : (i n r : ℕ) → i ≤ r → r < i + n → Memᴰ r (count_up i n)
unfolding count_up
counted_below i zero r h k = absurd (omega arith)
counted_below i (suc n) r h k = go (λ e. counted_below (suc i) n r e (omega arith)) (decide (eqb r i))
  where
    go : (suc i ≤ r → Memᴰ r (count_up (suc i) n)) → (eqb r i ≡ true) ⊎ (eqb r i ≡ false) → Memᴰ r (i ∷ count_up (suc i) n)
    go rest (inl e) = Memᴰ.head (eqb-true r i e)
    go rest (inr e) = let ne : (r ≡ i) → ⊥ = eqb-false r i e in Memᴰ.tail (rest (omega arith))

-- the numbers listed are from i on and below i + n
from_to : (i n r : ℕ) → Memᴰ r (count_up i n) → (i ≤ r) × (r < i + n)
unfolding count_up
from_to i zero r m = absurd (Memᴰ.not-nil m)
from_to i (suc n) r m = go (from_to (suc i) n r) (Memᴰ.cases_cons m)
  where
    go : (Memᴰ r (count_up (suc i) n) → (suc i ≤ r) × (r < suc i + n)) → (r ≡ i) ⊎ Memᴰ r (count_up (suc i) n) → (i ≤ r) × (r < i + suc n)
    go rest (inl e) = (omega arith, omega arith)
    go rest (inr m) = (omega (arith, (rest m).0), omega (arith, (rest m).1))

pub from_counted : (i n r : ℕ) → Memᴰ r (count_up i n) → i ≤ r
from_counted i n r m = (from_to i n r m).0

pub mem_below : (n r : ℕ) → r < n → Memᴰ r (below n)
unfolding below
mem_below n r h = counted_below 0 n r (omega arith) (omega arith)

pub below_mem : (n r : ℕ) → Memᴰ r (below n) → r < n
unfolding below
below_mem n r m = omega (arith, (from_to 0 n r m).1)

-- ---- the elements that pass a test

module _ {A : Type 0} (f : A → Bool) where
  pub select_gives : {a : A} (l : List A) → Memᴰ a (select f l) → Memᴰ a l × (f a ≡ true)
  unfolding select
  select_gives [] m = absurd (Memᴰ.not-nil m)
  select_gives {a} (x ∷ l) m = go (f x) refl (select_gives l) m
    where
      cons : (Memᴰ a (select f l) → Memᴰ a l × (f a ≡ true)) → f x ≡ true → (a ≡ x) ⊎ Memᴰ a (select f l) → Memᴰ a (x ∷ l) × (f a ≡ true)
      cons below e (inl p) = (Memᴰ.head p, rw p e)
      cons below e (inr m) = (Memᴰ.tail (below m).0, (below m).1)

      go : (b : Bool) → f x ≡ b → (Memᴰ a (select f l) → Memᴰ a l × (f a ≡ true)) → Memᴰ a (keep_if b x (select f l)) → Memᴰ a (x ∷ l) × (f a ≡ true)
      go true e below m = cons below e (Memᴰ.cases_cons m)
      go false e below m = (Memᴰ.tail (below m).0, (below m).1)

  pub select_make : {a : A} {l : List A} → Memᴰ a l → f a ≡ true → Memᴰ a (select f l)
  unfolding select
  select_make {a} (Memᴰ.head {x} {xs} e) t = let u : f x ≡ true = rw e at t in rw u (Memᴰ.head e)
  select_make (Memᴰ.tail {x} {xs} m) t = go (f x) (select_make m t)
    where
      go : {a : A} (b : Bool) → Memᴰ a (select f xs) → Memᴰ a (keep_if b x (select f xs))
      go true m = Memᴰ.tail m
      go false m = m

-- ---- map and flat

module _ {A B : Type 0} where
  pub map_gives : (f : A → B) {b : B} (l : List A) → Memᴰ b (map f l) → (a : A) × Memᴰ a l × (b ≡ f a)
  map_gives f [] m = absurd (Memᴰ.not-nil m)
  map_gives f {b} (x ∷ l) m = go (map_gives f l) (Memᴰ.cases_cons m)
    where
      go : (Memᴰ b (map f l) → (a : A) × Memᴰ a l × (b ≡ f a)) → (b ≡ f x) ⊎ Memᴰ b (map f l) → (a : A) × Memᴰ a (x ∷ l) × (b ≡ f a)
      go rest (inl e) = (x, Memᴰ.head refl, e)
      go rest (inr m) = let r = rest m in (r.0, Memᴰ.tail r.1, r.2)

  pub map_make : (f : A → B) {a : A} {l : List A} → Memᴰ a l → Memᴰ (f a) (map f l)
  map_make f (Memᴰ.head e) = Memᴰ.head (ap f e)
  map_make f (Memᴰ.tail m) = Memᴰ.tail (map_make f m)

  pub flat_gives : (f : A → List B) {b : B} (l : List A) → Memᴰ b (flat (map f l)) → (a : A) × Memᴰ a l × Memᴰ b (f a)
  unfolding flat
  flat_gives f [] m = absurd (Memᴰ.not-nil m)
  flat_gives f {b} (x ∷ l) m = go (flat_gives f l) (Memᴰ.append_cases (f x) m)
    where
      go : (Memᴰ b (flat (map f l)) → (a : A) × Memᴰ a l × Memᴰ b (f a)) → Memᴰ b (f x) ⊎ Memᴰ b (flat (map f l)) → (a : A) × Memᴰ a (x ∷ l) × Memᴰ b (f a)
      go rest (inl m) = (x, Memᴰ.head refl, m)
      go rest (inr m) = let r = rest m in (r.0, Memᴰ.tail r.1, r.2)

  pub flat_make : (f : A → List B) {a : A} {b : B} {l : List A} → Memᴰ a l → Memᴰ b (f a) → Memᴰ b (flat (map f l))
  unfolding flat
  flat_make f {b} (Memᴰ.head {x} {xs} e) m = Memᴰ.append_left (flat (map f xs)) (rw e at m)
  flat_make f (Memᴰ.tail {x} {xs} k) m = Memᴰ.append_right (f x) (flat_make f k m)

-- ---- elements by number

pub get_d_in : {A : Type 0} (l : List A) (i : ℕ) (a : A) → i < length l → Memᴰ (get_or l i a) l
get_d_in [] i a h = absurd (not-suc-le-zero h)
get_d_in (x ∷ l) zero a h = Memᴰ.head refl
get_d_in (x ∷ l) (suc i) a h = Memᴰ.tail (get_d_in l i a (le_of_suc-le-suc h))

-- ---- membership, as a test

pub member_gives : (x : ℕ) (l : List ℕ) → member_of x l ≡ true → Memᴰ x l
unfolding member_of
member_gives x l e = let r = any_gives (eqb x) l e in Memᴰ.cast (eqb-true x r.0 r.2) r.1

pub member_make : {x : ℕ} {l : List ℕ} → Memᴰ x l → member_of x l ≡ true
unfolding member_of
member_make {x} m = any_make (eqb x) m (eq-eqb x x refl)

-- ---- every number below n passes a test

pub every_gives : (p : ℕ → Bool) (n : ℕ) → every_below p n ≡ true → (k : ℕ) → k < n → p k ≡ true
unfolding every_below
every_gives p zero e k h = absurd (not-suc-le-zero h)
every_gives p (suc n) e k h = go (every_gives p n (and_left (every_below p n) (p n) e) k) (eq-or-lt_of_le (le_of_suc-le-suc h))
  where
    go : (k < n → p k ≡ true) → (k ≡ n) ⊎ (k < n) → p k ≡ true
    go rest (inl q) = rw q (and_right (every_below p n) (p n) e)
    go rest (inr l) = rest l

pub every_make : (p : ℕ → Bool) (n : ℕ) → ((k : ℕ) → k < n → p k ≡ true) → every_below p n ≡ true
unfolding every_below
every_make p zero h = refl
every_make p (suc n) h = and_make _ _ (every_make p n (λ k l. h k (omega arith))) (h n (omega arith))
