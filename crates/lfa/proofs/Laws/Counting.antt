-- Lists made by counting up: their length, their members, their elements. How many numbers have a property.
-- Assumes nothing.
use Prim.Native.Nat.{ℕ, zero, suc, ◌+◌, ◌-◌, ◌≤◌, ◌<◌, min}
use Rattle.std.specs.Prelude.{◌≡◌, ◌↔◌, Bool, true, false, get_or, length, take, drop}
use Rattle.std.proofs.Math.Path.{refl, ap}
use Rattle.std.proofs.Common.{sym, ◌∙◌, true≢false, arith, zero-add, not-suc-le-zero, le_of_suc-le-suc, length-take, length-drop, get_or-take, get_or-drop, ext_get_or}
use mathlib.Core.List.{map, Memᴰ}
use Rattle.std.proofs.Math.ListN.{length-map}
use Rattle.lfa.specs.Lists.{count_up, below, one, count, HowMany, nothing, one_more, no_more}
use Rattle.lfa.proofs.Laws.List.{map_gives, below_mem}

pub length_counted : (i n : ℕ) → length (count_up i n) ≡ n
unfolding count_up
length_counted i zero = refl
length_counted i (suc n) = ap suc (length_counted (suc i) n)

module _ {A : Type 0} (f : ℕ → A) (other : A) where
  pub counted : (b n i : ℕ) → i < n → get_or (map f (count_up b n)) i other ≡ f (b + i)
  unfolding count_up
  counted b zero i h = absurd (not-suc-le-zero h)
  counted b (suc n) zero h = ap f (omega arith)
  counted b (suc n) (suc i) h = counted (suc b) n i (le_of_suc-le-suc h) ∙ ap f (omega arith)

  pub counted_out : (b n i : ℕ) → n ≤ i → get_or (map f (count_up b n)) i other ≡ other
  unfolding count_up
  counted_out b zero i h = refl
  counted_out b (suc n) zero h = absurd (not-suc-le-zero h)
  counted_out b (suc n) (suc i) h = counted_out (suc b) n i (le_of_suc-le-suc h)

module _ {A : Type 0} (f : ℕ → A) where
  -- the list f 0, f 1, .., f (n - 1): its length, its members, its elements
  pub length_map_below : (n : ℕ) → length (map f (below n)) ≡ n
  unfolding below
  length_map_below n = length-map (count_up 0 n) f ∙ length_counted 0 n

  pub map_below_gives : (n : ℕ) {a : A} → Memᴰ a (map f (below n)) → (k : ℕ) × (k < n) × (a ≡ f k)
  map_below_gives n m = let r = map_gives f (below n) m in (r.0, below_mem n r.0 r.1, r.2)

  pub map_below_at : (other : A) (n i : ℕ) → i < n → get_or (map f (below n)) i other ≡ f i
  unfolding below
  map_below_at other n i h = counted f other 0 n i h ∙ ap f (zero-add i)

module _ {A : Type 0} (f g : ℕ → A) where
  -- two functions that agree below n list the same
  pub map_below_same : (n : ℕ) → ((i : ℕ) → i < n → f i ≡ g i) → map f (below n) ≡ map g (below n)
  map_below_same n h =
      ext_get_or (f 0) _ _ (length_map_below f n ∙ sym (length_map_below g n)) λ i k.
      let j : i < n = omega (arith, length_map_below f n) in
      map_below_at f (f 0) n i j ∙ h i j ∙ sym (map_below_at g (f 0) n i j)

module _ {A : Type 0} (f : ℕ → A) where
  -- m of the elements of f 0, .., f (n - 1) from element k on
  pub take_drop_map_below : (m k n : ℕ) → take m (drop k (map f (below n))) ≡ map (λ i. f (k + i)) (below (min m (n - k)))
  take_drop_map_below m k n =
      let l : length (take m (drop k (map f (below n)))) ≡ min m (n - k) = simp (length-take, length-drop, length_map_below) in
      ext_get_or (f 0) _ _ (l ∙ sym (length_map_below (λ i. f (k + i)) (min m (n - k)))) λ i h.
      let j : i < min m (n - k) = omega arith in
      get_or-take m (drop k (map f (below n))) i (f 0) (omega arith) ∙ get_or-drop k (map f (below n)) i (f 0) ∙ map_below_at f (f 0) n (k + i) (omega arith)
      ∙ sym (map_below_at (λ i. f (k + i)) (f 0) (min m (n - k)) i j)

-- ---- how many have a property

-- as many as pass a test that decides it
pub counted_holds : {P : ℕ → Type 0} (p : ℕ → Bool) (n : ℕ) → ((k : ℕ) → k < n → (p k ≡ true) ↔ P k) → HowMany P n (count p n)
unfolding count
counted_holds p zero decides = nothing
counted_holds {P} p (suc n) decides = go (p n) refl (counted_holds p n (λ k h. decides k (omega arith)))
  where
    go : (b : Bool) → p n ≡ b → HowMany P n (count p n) → HowMany P (suc n) (one b + count p n)
    go true e rest = let z : 1 + count p n ≡ suc (count p n) = omega arith in rw z (one_more ((decides n (omega arith)).0 e) rest)
    go false e rest = let z : 0 + count p n ≡ count p n = omega arith in rw z (no_more (λ h. true≢false (sym ((decides n (omega arith)).1 h) ∙ e)) rest)

-- and not another number of them
pub holds_once : {P : ℕ → Type 0} {n k m : ℕ} → HowMany P n k → HowMany P n m → k ≡ m
holds_once nothing nothing = refl
holds_once (one_more h a) (one_more h' b) = ap suc (holds_once a b)
holds_once (one_more h a) (no_more f b) = absurd (f h)
holds_once (no_more f a) (one_more h b) = absurd (f h)
holds_once (no_more f a) (no_more f' b) = holds_once a b
