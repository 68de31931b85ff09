-- The comparison of two tuples of numbers is that of the lists of keys: the first place at which they differ decides.
-- Assumes nothing.
use Rattle.std.proofs.Common.{◌≡◌, ℕ, Bool, true, false, cond, ◌&&◌, ◌||◌, [], ◌∷◌, eqb, ltb, refl}
use Rattle.std.specs.Prelude.{Option, Some}
use Rattle.std.specs.declared.cmp.Ordering.{Ordering}
use Rattle.std.specs.declared.cmp.Ordering.TheVariants.{Less, Equal, Greater}
use Rattle.std.specs.Ordering.{is_le, is_some_and, nat_cmp, partial_ordering_then}
use Rattle.lfa.specs.Repair.{no_later}

-- two numbers compared, by whether the first is less and whether they are equal
abbrev place : (less equal : Bool) → Option Ordering
place l e = Some (cond l Less (cond e Equal Greater))

-- five places, the first of them innermost
abbrev five : (a b c d e : Option Ordering) → Bool
five a b c d e = is_some_and is_le (partial_ordering_then (partial_ordering_then (partial_ordering_then (partial_ordering_then a b) c) d) e)

by_tests : (l e m f n g p h q i : Bool) → five (place l e) (place m f) (place n g) (place p h) (place q i) ≡ (l || (e && (m || (f && (n || (g && (p || (h && (q || (i && true))))))))))
by_tests true e m f n g p h q i = refl
by_tests false false m f n g p h q i = refl
by_tests false true true f n g p h q i = refl
by_tests false true false false n g p h q i = refl
by_tests false true false true true g p h q i = refl
by_tests false true false true false false p h q i = refl
by_tests false true false true false true true h q i = refl
by_tests false true false true false true false false q i = refl
by_tests false true false true false true false true true i = refl
by_tests false true false true false true false true false true = refl
by_tests false true false true false true false true false false = refl

pub tuples_later : (a b c d e v w x y z : ℕ) → five (Some (nat_cmp a v)) (Some (nat_cmp b w)) (Some (nat_cmp c x)) (Some (nat_cmp d y)) (Some (nat_cmp e z)) ≡ no_later (a ∷ b ∷ c ∷ d ∷ e ∷ []) (v ∷ w ∷ x ∷ y ∷ z ∷ [])
unfolding no_later
tuples_later a b c d e v w x y z = by_tests (ltb a v) (eqb a v) (ltb b w) (eqb b w) (ltb c x) (eqb c x) (ltb d y) (eqb d y) (ltb e z) (eqb e z)
