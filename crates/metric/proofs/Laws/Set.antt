-- Laws of sets of routers: the members of a union, the set of one router, and sets that a loop makes router by router.
-- Assumes nothing.
use Rattle.std.specs.Prelude.{ℕ, zero, suc, ◌+◌, ◌-◌, ◌*◌, ◌/◌, ◌%◌, ◌^◌, ◌<◌, max, ◌≡◌, refl, Bool, true, false, ◌||◌, eqb}
use Rattle.std.proofs.Common.{sym, ap₂, ap, ◌∙◌, one-mul, mod-eq_of_lt, not-suc-le-zero, zero-lt-suc, mod-lt, le_of_suc-le-suc, add-one, arith, pow-add, shl_exact, eq-eqb, ne_eqb, eqb-true}
use Rattle.std.proofs.Math.Nat.{div-eq_of_lt}
use Rattle.std.proofs.Math.Decide.{dec_lt}
use Rattle.std.proofs.Math.Pow.{pow-lt}
use Rattle.std.proofs.lemmas.Nat.{shl-shr, or_lt, and_mask, or_shr}
use Rattle.std.specs.Int.Bits.{bit_and, bit_or, or_step, or_shifted_r}
use Rattle.std.proofs.Math.Arith.{digits_mod}
use Rattle.std.proofs.lemmas.Bool.{eqb-false}
use Rattle.lfa.specs.Lists.{one}
use Rattle.lfa.specs.Space.{set_of, has}
use Rattle.lfa.proofs.Laws.Set.{set_of_lt, set_of_has, set_of_same, has_set_of}

or_low : (a b : ℕ) → bit_or a b % 2 ≡ max (a % 2) (b % 2)
or_low a b = ap (λ (x : ℕ). x % 2) (or_step a b) ∙ digits_mod (bit_or (a / 2) (b / 2)) (omega (arith, mod-lt a (zero-lt-suc 1), mod-lt b (zero-lt-suc 1)))

max_eqb : (u v : ℕ) → u < 2 → v < 2 → eqb (max u v) 1 ≡ (eqb u 1 || eqb v 1)
max_eqb zero v hu hv = ap (λ (x : ℕ). eqb x 1) (let e : max 0 v ≡ v = omega arith in e)
max_eqb (suc zero) zero hu hv = refl
max_eqb (suc zero) (suc zero) hu hv = refl
max_eqb (suc zero) (suc (suc v)) hu hv = absurd (not-suc-le-zero (le_of_suc-le-suc (le_of_suc-le-suc hv)))
max_eqb (suc (suc u)) v hu hv = absurd (not-suc-le-zero (le_of_suc-le-suc (le_of_suc-le-suc hu)))

-- a member of a union is a member of one of the two
pub has_or : (a b r : ℕ) → has (bit_or a b) r ≡ (has a r || has b r)
unfolding has
has_or a b r =
    ap (λ (x : ℕ). eqb (x % 2) 1) (or_shr a b r) ∙ ap (λ (x : ℕ). eqb x 1) (or_low (a / 2 ^ r) (b / 2 ^ r))
    ∙ max_eqb (a / 2 ^ r % 2) (b / 2 ^ r % 2) (mod-lt (a / 2 ^ r) (zero-lt-suc 1)) (mod-lt (b / 2 ^ r) (zero-lt-suc 1))

-- the set of one router
pub has_self : (r : ℕ) → has (2 ^ r) r ≡ true
unfolding has
has_self r = let e : 2 ^ r / 2 ^ r ≡ 1 = ap (λ (x : ℕ). x / 2 ^ r) (sym (one-mul (2 ^ r))) ∙ shl-shr 1 r in rw (e, has)

pub has_other : (v r : ℕ) → (r ≡ v → ⊥) → has (2 ^ v) r ≡ false
unfolding has
has_other v r ne = go (dec_lt r v)
  where
    go : Dec (r < v) → has (2 ^ v) r ≡ false
    go (yes l) =
        let k = v - suc r in
        let e : v ≡ (k + 1) + r = omega arith in
        let d : 2 ^ v / 2 ^ r ≡ 2 ^ (k + 1) = ap (λ (x : ℕ). 2 ^ x / 2 ^ r) e ∙ ap (λ (x : ℕ). x / 2 ^ r) (pow-add 2 (k + 1) r) ∙ shl-shr (2 ^ (k + 1)) r in
        let m : 2 ^ (k + 1) % 2 ≡ 0 = ap (λ (x : ℕ). x % 2) (pow-add 2 k 1) ∙ omega arith in
        rw (d, m)
    go (no l) = let z : 2 ^ v / 2 ^ r ≡ 0 = div-eq_of_lt (pow-lt {i = v} {j = r} (omega arith)) in rw (z, has)

-- the same as a number
pub one_router_lem : (n v : ℕ) → v < n → set_of n (λ z. eqb v z) ≡ 2 ^ v
one_router_lem n v h =
    set_of_same n (λ z. eqb v z) (has (2 ^ v)) (λ z i. by z (eqb v z) refl) ∙ set_of_has n (2 ^ v) ∙ mod-eq_of_lt (pow-lt {i = v} {j = n} h)
  where
    by : (z : ℕ) (b : Bool) → eqb v z ≡ b → eqb v z ≡ has (2 ^ v) z
    by z true e = let s : v ≡ z = eqb-true v z e in e ∙ sym (rw (← s) (has_self v))
    by z false e = e ∙ sym (has_other v z (λ s. eqb-false v z e (sym s)))

-- the union of two sets is the set of what is in one of them
pub or_set_of : (n : ℕ) (p q : ℕ → Bool) → bit_or (set_of n p) (set_of n q) ≡ set_of n (λ r. p r || q r)
or_set_of n p q =
    sym (mod-eq_of_lt (or_lt n (set_of n p) (set_of n q) (set_of_lt n p) (set_of_lt n q)))
    ∙ sym (set_of_has n (bit_or (set_of n p) (set_of n q)))
    ∙ set_of_same n (has (bit_or (set_of n p) (set_of n q))) (λ r. p r || q r)
    (λ r h. has_or (set_of n p) (set_of n q) r ∙ ap₂ (λ (x y : Bool). x || y) (has_set_of n p r h) (has_set_of n q r h))

-- the empty set
pub set_of_none : (n : ℕ) → 0 ≡ set_of n (λ r. false)
unfolding set_of
set_of_none zero = refl
set_of_none (suc n) = omega (arith, set_of_none n)

pub has_none : (r : ℕ) → has 0 r ≡ false
unfolding has
has_none r = let e : 0 / 2 ^ r ≡ 0 = div-eq_of_lt (omega (arith, set_of_lt r (λ y. false))) in rw (e, has)

-- bit y, read by a shift and a mask
pub has_bit : (set y : ℕ) → bit_and (set / 2 ^ y) 1 ≡ 1 → has set y ≡ true
unfolding has
has_bit set y e = eq-eqb _ _ (sym (and_mask (set / 2 ^ y) 1) ∙ e)

pub has_no_bit : (set y : ℕ) → (bit_and (set / 2 ^ y) 1 ≡ 1 → ⊥) → has set y ≡ false
unfolding has
has_no_bit set y h = ne_eqb _ _ (λ e. h (and_mask (set / 2 ^ y) 1 ∙ e))

-- a number without members is 0: by it two sets that have no common member are told apart from others
pub no_member : (x : ℕ) → x < 2 ^ 64 → ((r : ℕ) → r < 64 → has x r ≡ false) → x ≡ 0
no_member x h none = sym (mod-eq_of_lt h) ∙ sym (set_of_has 64 x) ∙ set_of_same 64 (has x) (λ r. false) none ∙ sym (set_of_none 64)

-- `set | (1 << n)` puts router n in, and a set that is left as it is leaves it out
pub put_in : {n set : ℕ} (p : ℕ → Bool) → n < 64 → set ≡ set_of n p → p n ≡ true → bit_or set ((1 * 2 ^ n) % 2 ^ 64) ≡ set_of (n + 1) p
unfolding set_of
put_in {n} p h s e =
    ap (λ (x : ℕ). bit_or x ((1 * 2 ^ n) % 2 ^ 64)) s ∙ ap (bit_or (set_of n p)) (shl_exact 1 n 64 (omega arith) (omega arith)) ∙ or_shifted_r 1 n (set_of n p) (set_of_lt n p)
    ∙ ap (λ (b : Bool). one b * 2 ^ n + set_of n p) (sym e) ∙ ap (λ (k : ℕ). set_of k p) (sym (add-one n))

pub left_out : {n set : ℕ} (p : ℕ → Bool) → set ≡ set_of n p → p n ≡ false → set ≡ set_of (n + 1) p
unfolding set_of
left_out {n} p s e = s ∙ sym (ap (λ (k : ℕ). set_of k p) (add-one n) ∙ ap (λ (b : Bool). one b * 2 ^ n + set_of n p) e ∙ omega arith)
