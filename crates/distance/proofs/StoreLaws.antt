-- The places of cells, and numbers stored one after the other.
-- Assumes nothing.
use Prim.Native.Nat.{ℕ, ◌+◌, ◌*◌, ◌/◌, ◌%◌, ◌≤◌, ◌<◌}
use mathlib.Core.Path.{◌≡◌, sym, ap, ◌∙◌}
use native.Mathlib.Omega.{arith}
use native.Mathlib.Nat.{suc-mul, mul-le-mul, mul-le-mul_right}
use native.Mathlib.Numerals.{add-one}
use lib.Arith.{digits_div, digits_mod}

-- ---- the place i * n + j

pub next : (i n : ℕ) → (i + 1) * n ≡ i * n + n
next i n = rw add-one (suc-mul i n)

pub below : (i j n : ℕ) → i < j → i * n + n ≤ j * n
below i j n h = rw (← next) (mul-le-mul_right n (omega arith))

-- at most 64 routers have at most 4096 cells
pub square_few : (n : ℕ) → n ≤ 64 → n * n ≤ 4096
square_few n h = mul-le-mul h h

-- two cells at one place are one
pub one_place : {n i j a b : ℕ} → j < n → b < n → i * n + j ≡ a * n + b → (i ≡ a) × (j ≡ b)
one_place {n} {i} {j} {a} {b} hj hb e =
    (sym (digits_div i hj) ∙ ap (λ (x : ℕ). x / n) e ∙ digits_div a hb, sym (digits_mod i hj) ∙ ap (λ (x : ℕ). x % n) e ∙ digits_mod a hb)
