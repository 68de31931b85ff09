-- Lists cut into parts: parts of parts, lists of one length laid end to end, groups of elements, and a list made again from its elements.
-- Assumes nothing.
use Prim.Native.Nat.{ℕ, zero, suc, ◌+◌, ◌-◌, ◌*◌, ◌≤◌, ◌<◌, min}
use Rattle.std.specs.Prelude.{◌≡◌, refl, get_or, take, drop}
use Rattle.std.proofs.Common.{sym, ap, ◌∙◌, zero-add, suc-add, not-suc-le-zero, le_of_suc-le-suc, length-take, length-drop, take_at, take-take, drop-drop, get_or-take, get_or-drop, ext_get_or}
use mathlib.Core.List.{List, [], ◌∷◌, ◌++◌, map, append_assoc}
use native.Mathlib.Omega.{arith}
use Rattle.std.proofs.Math.ListN.{length, length-append}
use Rattle.std.proofs.lemmas.List.{length-map}
use Rattle.std.proofs.Math.Seq.{take-nil, drop-append-add}
use Rattle.lfa.specs.Lists.{below, flat}
use Rattle.lfa.proofs.Laws.Counting.{length_map_below, map_below_at}

module _ {A : Type 0} where
  -- ---- elements

  pub element_mapped : {B : Type 0} (f : A → B) (l : List A) (i : ℕ) (d : A) (e : B) → i < length l → get_or (map f l) i e ≡ f (get_or l i d)
  element_mapped f [] i d e h = absurd (not-suc-le-zero h)
  element_mapped f (x ∷ l) zero d e h = refl
  element_mapped f (x ∷ l) (suc i) d e h = element_mapped f l i d e (le_of_suc-le-suc h)

  -- element i of a part
  pub part_element : (l : List A) (k n i : ℕ) (d : A) → i < n → get_or (take n (drop k l)) i d ≡ get_or l (k + i) d
  part_element l k n i d h = get_or-take n (drop k l) i d h ∙ get_or-drop k l i d

  -- the list f 0, f 1, .. of a list's own elements is the list
  pub made_again : (f : ℕ → A) (l : List A) (d : A) → ((i : ℕ) → i < length l → f i ≡ get_or l i d) → map f (below (length l)) ≡ l
  made_again f l d same =
      let n : length (map f (below (length l))) ≡ length l = length_map_below f (length l) in
      ext_get_or d (map f (below (length l))) l n (λ i h. let k : i < length l = omega arith in map_below_at f d (length l) i k ∙ same i k)

  -- ---- parts

  drop_take : (j m : ℕ) (l : List A) → drop j (take (j + m) l) ≡ take m (drop j l)
  drop_take zero m l = rw zero-add
  drop_take (suc j) m [] = rw suc-add (sym (take-nil m))
  drop_take (suc j) m (x ∷ l) = rw suc-add (drop_take j m l)

  -- a part of a part is a part of the whole
  pub part_of_part : (l : List A) (k n j m : ℕ) → j + m ≤ n → take m (drop j (take n (drop k l))) ≡ take m (drop (k + j) l)
  part_of_part l k n j m h =
      let e : n ≡ j + (n - j) = omega arith in
      ap (λ (x : ℕ). take m (drop j (take x (drop k l)))) e ∙ ap (take m) (drop_take j (n - j) (drop k l))
      ∙ take-take m (n - j) (drop j (drop k l)) (omega arith) ∙ ap (take m) (drop-drop j k l)

  -- ---- lists of one length, laid end to end

  -- each list in ls has this length
  abbrev pub EachLong : ℕ → List (List A) → Type 0
  EachLong size ls = (i : ℕ) → i < length ls → length (get_or ls i []) ≡ size

  pub length_flat : (size : ℕ) (ls : List (List A)) → EachLong size ls → length (flat ls) ≡ size * length ls
  unfolding flat
  length_flat size [] long = omega arith
  length_flat size (l ∷ ls) long =
      let first : length l ≡ size = long 0 (omega arith) in
      let rest = length_flat size ls (λ i h. long (suc i) (omega arith)) in
      omega (arith, length-append l (flat ls))

  -- Lists of one length laid end to end, whatever follows them: the part of that length number i is the list number i.
  -- By recursion on the lists: the first `size` elements are the first list, and dropping them leaves the same claim one list shorter.
  pub part_flat : (size : ℕ) (ls : List (List A)) (rest : List A) → EachLong size ls → (i : ℕ) → i < length ls → take size (drop (size * i) (flat ls ++ rest)) ≡ get_or ls i []
  unfolding flat
  part_flat size [] rest long i h = absurd (not-suc-le-zero h)
  part_flat size (l ∷ ls) rest long zero h =
      let z : size * 0 ≡ 0 = omega arith in
      rw (z, append_assoc l (flat ls) rest) (take_at l (flat ls ++ rest) size (long 0 h))
  part_flat size (l ∷ ls) rest long (suc i) h =
      let first : length l ≡ size = long 0 (omega arith) in
      let s : size * suc i ≡ length l + size * i = omega arith in
      rw (s, append_assoc l (flat ls) rest, drop-append-add l (flat ls ++ rest) (size * i)) (part_flat size ls rest (λ j k. long (suc j) (omega arith)) i (le_of_suc-le-suc h))

-- ---- the elements of a list by groups of `each`, written by f: group j holds those from each × j on
module _ {A B : Type 0} (f : A → List B) (l : List A) (d : A) (each j : ℕ) where
  pub group_count : length (map f (take each (drop (each * j) l))) ≡ min each (length l - each * j)
  group_count = simp (length-map, length-take, length-drop)

  -- place i of group j holds element each × j + i
  pub group_at : (i : ℕ) → i < each → each * j + i < length l → get_or (map f (take each (drop (each * j) l))) i [] ≡ f (get_or l (each * j + i) d)
  group_at i h k =
      let n : i < length (take each (drop (each * j) l)) = simp (length-take, length-drop) (omega arith) in
      element_mapped f (take each (drop (each * j) l)) i d [] n ∙ ap f (part_element l (each * j) each i d h)

  -- what holds of every element written holds of each in the group
  pub group_each : (P : List B → Type 0) → ((k : ℕ) → k < length l → P (f (get_or l k d))) → (i : ℕ) → i < length (map f (take each (drop (each * j) l))) →
      P (get_or (map f (take each (drop (each * j) l))) i [])
  group_each P all i h =
      let n : i < each = omega (arith, group_count) in
      let m : each * j + i < length l = omega (arith, group_count) in
      rw (group_at i n m) (all (each * j + i) m)
