-- Sets of routers as numbers: bit r is one exactly when router r is a member, the number of ones is the number of members, and a
-- mask of two sets holds what is in both.
-- Assumes nothing.
use Rattle.std.specs.Prelude.{ℕ, zero, suc, ◌+◌, ◌-◌, ◌*◌, ◌/◌, ◌%◌, ◌^◌, ◌≤◌, ◌<◌, min, ◌≡◌, refl, Bool, true, false, ◌&&◌, ◌⊎◌, eqb, ltb}
use Rattle.std.proofs.Common.{sym, ap, ap₂, ◌∙◌, subst, inl, inr, not-suc-le-zero, zero-lt-suc, mod-lt, mod-eq_of_lt, mul_assoc, zero-add, suc-add, le_refl, le_of_suc-le-suc, one-add, arith, pow-add, pow_mono, ltb-true, ltb-false}
use Rattle.std.proofs.lemmas.Bool.{false≢true}
use Rattle.std.proofs.Math.Nat.{mul-add-mod_self_right, mod-one, div-eq_of_lt}
use Rattle.std.proofs.Math.Arith.{digits_lt, digits_mod}
use Rattle.std.proofs.Math.Pow.{high, field}
use Rattle.std.proofs.lemmas.Nat.{mod-pow-add, and_shr, ones_cat}
use Rattle.std.specs.Int.Bits.{bit_and, and_step}
use Rattle.std.specs.Int.Count.{ones}
use Rattle.lfa.specs.Lists.{one, count}
use Rattle.lfa.specs.Space.{set_of, has, size_of}
use Rattle.lfa.proofs.Laws.Test.{decide}

one_lt : (b : Bool) → one b < 2
one_lt true = omega arith
one_lt false = omega arith

pub set_of_lt : (n : ℕ) (p : ℕ → Bool) → set_of n p < 2 ^ n
unfolding set_of
set_of_lt zero p = omega arith
set_of_lt (suc n) p =
    subst (λ (x : ℕ). set_of (suc n) p < x) (sym (ap (λ (x : ℕ). 2 ^ x) (sym (one-add n)) ∙ pow-add 2 1 n)) (digits_lt (one_lt (p n)) (set_of_lt n p))

-- the low digits of a set are the smaller set
set_of_mod : (j m : ℕ) (p : ℕ → Bool) → set_of (j + m) p % 2 ^ m ≡ set_of m p
unfolding set_of
set_of_mod zero m p = ap (λ (x : ℕ). set_of x p % 2 ^ m) (zero-add m) ∙ mod-eq_of_lt (set_of_lt m p)
set_of_mod (suc j) m p =
    ap (λ (x : ℕ). set_of x p % 2 ^ m) (suc-add j m)
    ∙ ap (λ (x : ℕ). (one (p (j + m)) * x + set_of (j + m) p) % 2 ^ m) (pow-add 2 j m)
    ∙ ap (λ (x : ℕ). (x + set_of (j + m) p) % 2 ^ m) (sym (mul_assoc (one (p (j + m))) (2 ^ j) (2 ^ m)))
    ∙ mul-add-mod_self_right (one (p (j + m)) * 2 ^ j) (2 ^ m) (set_of (j + m) p)
    ∙ set_of_mod j m p

eqb_one : (b : Bool) → eqb (one b) 1 ≡ b
eqb_one true = refl
eqb_one false = refl

-- a router is in the set when it has p
pub has_set_of : (n : ℕ) (p : ℕ → Bool) (r : ℕ) → r < n → has (set_of n p) r ≡ p r
unfolding has set_of
has_set_of n p r h =
    let e : n ≡ (n - suc r) + suc r = omega arith in
    let low : set_of n p % 2 ^ (1 + r) ≡ set_of (suc r) p = ap (λ (x : ℕ). set_of n p % 2 ^ x) (one-add r) ∙ ap (λ (x : ℕ). set_of x p % 2 ^ suc r) e ∙ set_of_mod (n - suc r) (suc r) p in
    ap (λ (x : ℕ). eqb x 1) (sym (field (set_of n p) 1 r) ∙ ap (λ (x : ℕ). x / 2 ^ r) low ∙ high (one (p r)) r (set_of_lt r p)) ∙ eqb_one (p r)

-- no other number is
out_of_set : (n : ℕ) (p : ℕ → Bool) (r : ℕ) → n ≤ r → has (set_of n p) r ≡ false
unfolding has
out_of_set n p r h =
    let z : set_of n p / 2 ^ r ≡ 0 = div-eq_of_lt (omega (arith, set_of_lt n p, pow_mono h)) in
    rw (z, has)

-- bit r of the set is one exactly when r is a router below n that passes the test
pub in_set : (n : ℕ) (p : ℕ → Bool) (r : ℕ) → has (set_of n p) r ≡ true → (r < n) × (p r ≡ true)
in_set n p r e = go (decide (ltb r n))
  where
    go : (ltb r n ≡ true) ⊎ (ltb r n ≡ false) → (r < n) × (p r ≡ true)
    go (inl t) = let h = ltb-true r n t in (h, sym (has_set_of n p r h) ∙ e)
    go (inr t) = absurd (false≢true (sym (out_of_set n p r (ltb-false r n t)) ∙ e))

one_eqb : (u : ℕ) → u < 2 → one (eqb u 1) ≡ u
one_eqb zero h = refl
one_eqb (suc zero) h = refl
one_eqb (suc (suc u)) h = absurd (not-suc-le-zero (le_of_suc-le-suc (le_of_suc-le-suc h)))

-- a number is the set of its members
pub set_of_has : (n x : ℕ) → set_of n (has x) ≡ x % 2 ^ n
unfolding set_of has
set_of_has zero x = sym (mod-one x)
set_of_has (suc n) x =
    ap₂ (λ (u v : ℕ). u * 2 ^ n + v) (one_eqb (x / 2 ^ n % 2) (mod-lt (x / 2 ^ n) (zero-lt-suc 1))) (set_of_has n x)
    ∙ sym (mod-pow-add x 1 n) ∙ ap (λ (k : ℕ). x % 2 ^ k) (one-add n)

pub set_of_same : (n : ℕ) (p q : ℕ → Bool) → ((r : ℕ) → r < n → p r ≡ q r) → set_of n p ≡ set_of n q
unfolding set_of
set_of_same zero p q h = refl
set_of_same (suc n) p q h = ap₂ (λ (b : Bool) (v : ℕ). one b * 2 ^ n + v) (h n (le_refl (suc n))) (set_of_same n p q (λ r l. h r (omega arith)))

ones_one : (b : Bool) → ones (one b) ≡ one b
unfolding ones
ones_one true = refl
ones_one false = refl

-- the number of ones is the number of members
pub ones_set_of : (n : ℕ) (p : ℕ → Bool) → ones (set_of n p) ≡ count p n
unfolding set_of count ones
ones_set_of zero p = refl
ones_set_of (suc n) p = ones_cat n (one (p n)) (set_of n p) (set_of_lt n p) ∙ ap₂ (λ (u v : ℕ). u + v) (ones_one (p n)) (ones_set_of n p)

pub ones_count : (n x : ℕ) → x < 2 ^ n → ones x ≡ count (has x) n
ones_count n x h = ap ones (sym (mod-eq_of_lt h) ∙ sym (set_of_has n x)) ∙ ones_set_of n (has x)

-- members of an intersection
and_low : (a b : ℕ) → bit_and a b % 2 ≡ min (a % 2) (b % 2)
and_low a b = ap (λ (x : ℕ). x % 2) (and_step a b) ∙ digits_mod (bit_and (a / 2) (b / 2)) (omega (arith, mod-lt a (zero-lt-suc 1)))

min_eqb : (u v : ℕ) → u < 2 → v < 2 → eqb (min u v) 1 ≡ (eqb u 1 && eqb v 1)
min_eqb zero v hu hv = ap (λ (x : ℕ). eqb x 1) (let e : min 0 v ≡ 0 = omega arith in e)
min_eqb (suc zero) zero hu hv = refl
min_eqb (suc zero) (suc zero) hu hv = refl
min_eqb (suc zero) (suc (suc v)) hu hv = absurd (not-suc-le-zero (le_of_suc-le-suc (le_of_suc-le-suc hv)))
min_eqb (suc (suc u)) v hu hv = absurd (not-suc-le-zero (le_of_suc-le-suc (le_of_suc-le-suc hu)))

pub has_and : (a b r : ℕ) → has (bit_and a b) r ≡ (has a r && has b r)
unfolding has
has_and a b r =
    ap (λ (x : ℕ). eqb (x % 2) 1) (and_shr a b r) ∙ ap (λ (x : ℕ). eqb x 1) (and_low (a / 2 ^ r) (b / 2 ^ r))
    ∙ min_eqb (a / 2 ^ r % 2) (b / 2 ^ r % 2) (mod-lt (a / 2 ^ r) (zero-lt-suc 1)) (mod-lt (b / 2 ^ r) (zero-lt-suc 1))

-- the size of a 64-bit set is the number of its ones
pub size_ones : (x : ℕ) → x < 2 ^ 64 → ones x ≡ size_of x
unfolding size_of
size_ones x h = ones_count 64 x h
