-- What the value of a test tells, and how to show one.
-- Assumes nothing.
use Rattle.std.specs.Prelude.{◌≡◌, refl, ◌⊎◌, Bool, true, false, not, ◌&&◌, ◌||◌}
use Rattle.std.proofs.Common.{sym, inl, inr, true≢false}
use Rattle.std.proofs.lemmas.Bool.{false≢true}

pub and_left : (a b : Bool) → (a && b) ≡ true → a ≡ true
and_left true b e = refl
and_left false b e = e

pub and_right : (a b : Bool) → (a && b) ≡ true → b ≡ true
and_right true b e = e
and_right false b e = absurd (false≢true e)

pub and_make : (a b : Bool) → a ≡ true → b ≡ true → (a && b) ≡ true
and_make true b p q = q
and_make false b p q = p

pub or_cases : (a b : Bool) → (a || b) ≡ true → (a ≡ true) ⊎ (b ≡ true)
or_cases true b e = inl refl
or_cases false b e = inr e

pub or_left : (a b : Bool) → a ≡ true → (a || b) ≡ true
or_left true b p = refl
or_left false b p = absurd (false≢true p)

pub or_right : (a b : Bool) → b ≡ true → (a || b) ≡ true
or_right true b p = refl
or_right false b p = p

pub not_make : (a : Bool) → (a ≡ true → ⊥) → not a ≡ true
not_make true f = absurd (f refl)
not_make false f = refl

-- a test fails unless it passes
pub fails_make : (a : Bool) → (a ≡ true → ⊥) → a ≡ false
fails_make true f = absurd (f refl)
fails_make false f = refl

pub fails_gives : (a : Bool) → a ≡ false → a ≡ true → ⊥
fails_gives true e p = true≢false e
fails_gives false e p = false≢true p

pub not_of : (a : Bool) → a ≡ false → not a ≡ true
not_of a e = rw e

pub not_gives : (a : Bool) → not a ≡ true → a ≡ true → ⊥
not_gives true e p = false≢true e
not_gives false e p = false≢true p

-- a test passes or fails, with the equation kept
pub decide : (a : Bool) → (a ≡ true) ⊎ (a ≡ false)
decide true = inl refl
decide false = inr refl

-- two tests that pass under the same conditions are equal
pub same_test : (a b : Bool) → (a ≡ true → b ≡ true) → (b ≡ true → a ≡ true) → a ≡ b
same_test true true f g = refl
same_test true false f g = sym (f refl)
same_test false true f g = g refl
same_test false false f g = refl

pub or_false_left : (a b : Bool) → (a || b) ≡ false → a ≡ false
or_false_left true b e = e
or_false_left false b e = refl

pub or_false_right : (a b : Bool) → (a || b) ≡ false → b ≡ false
or_false_right true b e = absurd (true≢false e)
or_false_right false b e = e

pub and_false : (a b : Bool) → (a && b) ≡ false → a ≡ true → b ≡ false
and_false true b e p = e
and_false false b e p = absurd (false≢true p)

pub and_fails : (a b : Bool) → (a && b) ≡ false → (a ≡ false) ⊎ (b ≡ false)
and_fails true b e = inr e
and_fails false b e = inl refl

pub fails_left : (a b : Bool) → a ≡ false → (a && b) ≡ false
fails_left a b e = rw e

pub fails_right : (a b : Bool) → b ≡ false → (a && b) ≡ false
fails_right true b e = e
fails_right false b e = refl

pub not_fails : (a : Bool) → not a ≡ false → a ≡ true
not_fails true e = refl
not_fails false e = absurd (true≢false e)
