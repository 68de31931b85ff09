-- Laws of lists made by selecting and joining, and of a conjunction of tests.
-- Assumes nothing.
use Rattle.std.specs.Prelude.{◌≡◌, Bool, ◌&&◌}
use Rattle.std.proofs.Math.Path.{refl, ap}
use Rattle.std.proofs.Common.{sym, ap₂, ◌∙◌}
use Rattle.std.proofs.Math.Bool.{true, false}
use mathlib.Core.List.{List, [], ◌∷◌, ◌++◌, map, append_assoc, map-append, Memᴰ}
use Rattle.lfa.proofs.Laws.Test.{and_left, and_right, and_make, same_test}
use Rattle.lfa.specs.Lists.{keep_if, select, flat}
use Rattle.metric.proofs.Laws.List.{select_append}

-- ---- lists, one element more

pub flat_append : {A : Type 0} (l m : List (List A)) → flat (l ++ m) ≡ flat l ++ flat m
unfolding flat
flat_append [] m = refl
flat_append (x ∷ l) m = ap (λ (k : List _). x ++ k) (flat_append l m) ∙ sym (append_assoc x (flat l) (flat m))

-- ---- selecting

module _ {A : Type 0} where
  -- selecting twice
  pub select_select : (p q : A → Bool) (l : List A) → select p (select q l) ≡ select (λ x. q x && p x) l
  unfolding select
  select_select p q [] = refl
  select_select p q (x ∷ l) = go (q x) (select_select p q l)
    where
      go : (b : Bool) → select p (select q l) ≡ select (λ x. q x && p x) l → select p (keep_if b x (select q l)) ≡ keep_if (b && p x) x (select (λ x. q x && p x) l)
      go true rest = ap (keep_if (p x) x) rest
      go false rest = rest

module _ {A B : Type 0} where
  pub select_map : (p : B → Bool) (f : A → B) (l : List A) → select p (map f l) ≡ map f (select (λ x. p (f x)) l)
  unfolding select
  select_map p f [] = refl
  select_map p f (x ∷ l) = go (p (f x)) (select_map p f l)
    where
      go : (b : Bool) → select p (map f l) ≡ map f (select (λ x. p (f x)) l) → keep_if b (f x) (select p (map f l)) ≡ map f (keep_if b x (select (λ x. p (f x)) l))
      go true rest = ap (λ (k : List B). f x ∷ k) rest
      go false rest = rest

  -- functions that agree on the list
  pub map_same : (f g : A → B) (l : List A) → ((x : A) → Memᴰ x l → f x ≡ g x) → map f l ≡ map g l
  map_same f g [] h = refl
  map_same f g (x ∷ l) h = ap₂ (λ (b : B) (k : List B). b ∷ k) (h x (Memᴰ.head refl)) (map_same f g l (λ y m. h y (Memᴰ.tail m)))

  pub select_flat : (p : B → Bool) (f : A → List B) (l : List A) → select p (flat (map f l)) ≡ flat (map (λ x. select p (f x)) l)
  unfolding select flat
  select_flat p f [] = refl
  select_flat p f (x ∷ l) = select_append p (f x) (flat (map f l)) ∙ ap (λ (k : List B). select p (f x) ++ k) (select_flat p f l)

  pub map_flat : {C : Type 0} (g : B → C) (f : A → List B) (l : List A) → map g (flat (map f l)) ≡ flat (map (λ x. map g (f x)) l)
  unfolding flat
  map_flat g f [] = refl
  map_flat g f (x ∷ l) = map-append g (f x) (flat (map f l)) ∙ ap (λ (k : List _). map g (f x) ++ k) (map_flat g f l)

-- ---- tests

-- a test that follows from another of the conjunction may be left out
pub and_reorder : (e t a i : Bool) → (a ≡ true → e ≡ true) → (((e && t) && a) && i) ≡ (i && (a && t))
and_reorder e t a i h = same_test (((e && t) && a) && i) (i && (a && t)) there back
  where
    there : (((e && t) && a) && i) ≡ true → (i && (a && t)) ≡ true
    there k =
        let l = and_left ((e && t) && a) i k in
        and_make i (a && t) (and_right ((e && t) && a) i k) (and_make a t (and_right (e && t) a l) (and_right e t (and_left (e && t) a l)))

    back : (i && (a && t)) ≡ true → (((e && t) && a) && i) ≡ true
    back k =
        let r = and_right i (a && t) k in
        let u = and_left a t r in
        and_make ((e && t) && a) i (and_make (e && t) a (and_make e t (h u) (and_right a t r)) u) (and_left i (a && t) k)
