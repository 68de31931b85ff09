-- Loops that test every number below n: what is known of the numbers below i becomes known of those below i + 1.
-- Assumes nothing.
use Prim.Native.Nat.{ℕ, zero, suc, ◌+◌, ◌<◌}
use mathlib.Core.Path.{◌≡◌, refl, sym, ◌∙◌}
use mathlib.Core.Bool.{Bool, true, false, ◌&&◌}
use native.Mathlib.Omega.{arith}
use native.Mathlib.Numerals.{add-one}
use Rattle.lfa.specs.Lists.{every_below}
use Rattle.lfa.proofs.Laws.List.{every_gives}

pub every_none : (p : ℕ → Bool) → every_below p 0 ≡ true
unfolding every_below
every_none p = refl

pub every_more : (p : ℕ → Bool) (i : ℕ) → every_below p i ≡ true → p i ≡ true → every_below p (i + 1) ≡ true
unfolding every_below
every_more p i e f = rw (add-one i, every_below, e) f

-- the same for a loop that goes on after one that fails
pub every_next : (p : ℕ → Bool) (i : ℕ) (a b : Bool) → a ≡ every_below p i → b ≡ p i → (a && b) ≡ every_below p (i + 1)
unfolding every_below
every_next p i a b before here = rw (before, here, add-one i)

-- One number that fails is enough: if all passed, it would pass too.
pub every_fails : (p : ℕ → Bool) (n i : ℕ) → i < n → p i ≡ false → false ≡ every_below p n
every_fails p n i h e = go (every_below p n) refl
  where
    go : (b : Bool) → every_below p n ≡ b → false ≡ b
    go true q = sym e ∙ every_gives p n q i h
    go false q = refl

-- tests that agree below n
pub every_same : (p q : ℕ → Bool) (n : ℕ) → ((k : ℕ) → k < n → p k ≡ q k) → every_below p n ≡ every_below q n
unfolding every_below
every_same p q zero same = refl
every_same p q (suc n) same = rw (every_same p q n (λ k h. same k (omega arith)), same n (omega arith))
