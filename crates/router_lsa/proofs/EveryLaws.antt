-- A loop that tries a test at every number below n, and breaks off where it fails.
-- Assumes nothing.
use Prim.Native.Nat.{ℕ, ◌+◌, ◌≤◌}
use mathlib.Core.Path.{◌≡◌, refl}
use mathlib.Core.Bool.{Bool, true}
use native.Mathlib.Omega.{arith}
use native.Mathlib.Numerals.{add-one}
use Rattle.lfa.specs.Lists.{every_below}
use Rattle.lfa.proofs.Laws.Test.{and_make}

pub every_starts : (p : ℕ → Bool) → every_below p 0 ≡ true
unfolding every_below
every_starts p = refl

pub every_more : (p : ℕ → Bool) (i : ℕ) → every_below p i ≡ true → p i ≡ true → every_below p (i + 1) ≡ true
unfolding every_below
every_more p i h k = rw (add-one i) (and_make _ _ h k)

pub every_ends : (p : ℕ → Bool) (n i : ℕ) → i ≤ n → n ≤ i → every_below p i ≡ true → every_below p n ≡ true
every_ends p n i h k e = let q : i ≡ n = omega arith in rw q at e
