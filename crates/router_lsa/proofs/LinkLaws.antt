-- What decides whether a link is sound, and the sums of the checksum.
-- Assumes nothing.
use Prim.Native.Nat.{ℕ, ◌+◌, ◌%◌, ◌≤◌, ◌<◌}
use mathlib.Core.Path.{◌≡◌, refl}
use mathlib.Core.List.{List}
use mathlib.Core.Bool.{Bool, true, false, not, ◌&&◌, ◌||◌}
use native.Mathlib.Numerals.{add-one}
use lib.Dec.{eqb}
use lib.ListN.{get_or, length, drop, drop_of_length-le}
use lib.Seq.{drop-cons}
use Rattle.ospf.specs.Lsa.{entry, sound_entry, Sums, sums, fletcher, both_zero}

module _ (r id info kind tos metric : ℕ) where
  pub link_tos : eqb tos 0 ≡ false → false ≡ sound_entry r (entry id info kind tos metric)
  unfolding sound_entry
  link_tos e = rw e

  pub link_stub : eqb tos 0 ≡ true → eqb kind 3 ≡ true → true ≡ sound_entry r (entry id info kind tos metric)
  unfolding sound_entry
  link_stub e f = rw (e, f)

  pub link_other : eqb kind 3 ≡ false → eqb kind 1 ≡ false → false ≡ sound_entry r (entry id info kind tos metric)
  unfolding sound_entry
  link_other f g = rw (f, g) (go (eqb tos 0))
    where
      go : (b : Bool) → false ≡ (b && false)
      go true = refl
      go false = refl

  pub link_free : eqb kind 3 ≡ false → eqb metric 0 ≡ true → false ≡ sound_entry r (entry id info kind tos metric)
  unfolding sound_entry
  link_free f g = rw (f, g) (go (eqb tos 0) (eqb kind 1))
    where
      go : (b c : Bool) → false ≡ (b && (false || (c && false && not (eqb id r))))
      go true true = refl
      go true false = refl
      go false c = refl

  pub link_other_end : eqb tos 0 ≡ true → eqb kind 3 ≡ false → eqb kind 1 ≡ true → eqb metric 0 ≡ false → not (eqb id r) ≡ sound_entry r (entry id info kind tos metric)
  unfolding sound_entry
  link_other_end e f g h = rw (e, f, g, h)

-- ---- the sums

pub sum_more : (l : List ℕ) (i c₀ c₁ d₀ d₁ : ℕ) → i < length l → d₀ ≡ (c₀ + get_or l i 0) % 255 → d₁ ≡ (c₁ + d₀) % 255 →
    fletcher d₀ d₁ (drop (i + 1) l) ≡ fletcher c₀ c₁ (drop i l)
unfolding fletcher
sum_more l i c₀ c₁ d₀ d₁ h e f = rw (drop-cons l i 0 h, add-one i, f, e) refl

pub sum_ends : (l : List ℕ) (i c₀ c₁ : ℕ) → length l ≤ i → fletcher c₀ c₁ (drop i l) ≡ sums c₀ c₁
unfolding fletcher
sum_ends l i c₀ c₁ h = rw (drop_of_length-le l h)

pub zero_first : (c₀ c₁ : ℕ) (s : Sums) → s ≡ sums c₀ c₁ → eqb c₀ 0 ≡ false → false ≡ both_zero s
unfolding both_zero
zero_first c₀ c₁ s e f = rw (e, f)

pub zero_second : (c₀ c₁ : ℕ) (s : Sums) → s ≡ sums c₀ c₁ → eqb c₀ 0 ≡ true → eqb c₁ 0 ≡ both_zero s
unfolding both_zero
zero_second c₀ c₁ s e f = rw (e, f)
