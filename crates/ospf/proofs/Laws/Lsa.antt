-- The tests of number 16 are its causes: an LSA passes exactly when it is sound.
-- Assumes nothing.
use Rattle.std.specs.Prelude.{ℕ, ◌+◌, ◌*◌, ◌≤◌, ◌≡◌, ◌⊎◌, false, not, ◌&&◌, eqb, length, drop}
use Rattle.std.proofs.Math.Path.{refl}
use Rattle.std.proofs.Common.{sym, inl, inr, arith}
use Rattle.std.proofs.Math.Bool.{true}
use borrow.Author.Tests.{leb-true, le-leb, eqb-true, eqb-false, eq-eqb, ne_eqb, not-true}
use Rattle.lfa.specs.Lists.{every_below}
use Rattle.lfa.specs.File.{Bytes, byte_at}
use Rattle.lfa.proofs.Laws.Test.{and_left, and_right, and_make, or_cases, not_make, not_gives}
use Rattle.lfa.proofs.Laws.List.{every_gives, every_make}
use Rattle.ospf.specs.Lsa.{Entry, entry, length_field, router_field, links_field, entry_at, whole_good, filled_good, type_good, Sums, sums, fletcher, both_zero, be16, checksum_good}
use Rattle.ospf.specs.Lsa.{sound_entry, same_neighbour, entry_good, entry_new, sound_lsa, SoundEntry, point_to_point, stub, Apart, SoundLsa}
use Rattle.ospf.specs.Run.{lsa_bytes, router_new, lsa_good, GoodLsa}

-- ---- one link

entry_gives : (r : ℕ) (e : Entry) → sound_entry r e ≡ true → SoundEntry r e
unfolding sound_entry
entry_gives r (entry id info kind tos metric) t =
    let zero-tos : tos ≡ 0 = search (eqb-true, and_left) in
    rw zero-tos (go (or_cases (eqb kind 3) _ (and_right (eqb tos 0) _ t)))
  where
    go : (eqb kind 3 ≡ true) ⊎ ((eqb kind 1 && not (eqb metric 0) && not (eqb id r)) ≡ true) → SoundEntry r (entry id info kind 0 metric)
    go (inl s) = rw (eqb-true kind 3 s) stub
    go (inr s) =
        let one : kind ≡ 1 = search (eqb-true, and_left, and_right) in
        let some : eqb metric 0 ≡ false = search (not-true, and_left, and_right) in
        let other : eqb id r ≡ false = search (not-true, and_left, and_right) in
        let positive : metric ≡ 0 → ⊥ = eqb-false metric 0 some in
        let least : 1 ≤ metric = omega arith in
        rw one (point_to_point least (eqb-false id r other))

entry_make : (r : ℕ) {e : Entry} → SoundEntry r e → sound_entry r e ≡ true
unfolding sound_entry
entry_make r (point_to_point {id} {info} {metric} some other) = rw (ne_eqb metric 0 (λ e. omega arith), ne_eqb id r other)
entry_make r stub = refl

apart_gives : (e f : Entry) → not (same_neighbour f e) ≡ true → Apart e f
unfolding same_neighbour
apart_gives (entry id info kind tos metric) (entry id' info' kind' tos' metric') t = λ one one' same.
    not_gives _ t (and_make _ _ (and_make _ _ (eq-eqb kind' 1 one') (eq-eqb kind 1 one)) (eq-eqb id' id (sym same)))

apart_make : (e f : Entry) → Apart e f → not (same_neighbour f e) ≡ true
unfolding same_neighbour
apart_make (entry id info kind tos metric) (entry id' info' kind' tos' metric') h = not_make _ λ t.
    let u : (eqb kind' 1 && eqb kind 1 && eqb id' id) ≡ true = t in
    let same : id' ≡ id = search (eqb-true, and_left, and_right) in
    h (search (eqb-true, and_left, and_right)) (search (eqb-true, and_left, and_right)) (sym same)

-- ---- the checksum

zero_gives : (s : Sums) → both_zero s ≡ true → s ≡ sums 0 0
unfolding both_zero
zero_gives (sums c₀ c₁) t =
    let p : c₀ ≡ 0 = search (eqb-true, and_left) in
    let q : c₁ ≡ 0 = search (eqb-true, and_left, and_right) in
    cc

-- ---- one LSA

-- the tests one by one
record Tests (l : Bytes) : Type 0 where
  fields : 24 ≤ length l
  uncut : length_field l ≡ length l
  filled : length l ≡ 24 + 12 * links_field l
  type : byte_at l 3 ≡ 1
  checksum_some : eqb (be16 l 16) 0 ≡ false
  checksum : both_zero (fletcher 0 0 (drop 2 l)) ≡ true
  entries : every_below (entry_good l) (links_field l) ≡ true
  neighbours : every_below (entry_new l) (links_field l) ≡ true

module _ (l : Bytes) where
  tests : sound_lsa l ≡ true → Tests l
  unfolding sound_lsa whole_good filled_good type_good checksum_good
  tests t = search (leb-true, eqb-true, not-true, and_left, and_right) depth 12

  pub sound_gives : sound_lsa l ≡ true → SoundLsa l
  unfolding entry_good entry_new
  sound_gives e =
      let t = tests e in
      record {
        fields = t.fields;
        uncut = t.uncut;
        filled = t.filled;
        type = t.type;
        checksum_some = eqb-false (be16 l 16) 0 t.checksum_some;
        checksum = zero_gives (fletcher 0 0 (drop 2 l)) t.checksum;
        entries = λ k h. entry_gives (router_field l) (entry_at l k) (every_gives (entry_good l) (links_field l) t.entries k h);
        neighbours = λ j k h m. apart_gives (entry_at l j) (entry_at l k) (every_gives _ k (every_gives (entry_new l) (links_field l) t.neighbours k m) j h);
      }

  pub sound_make : SoundLsa l → sound_lsa l ≡ true
  unfolding sound_lsa whole_good filled_good type_good checksum_good entry_good entry_new both_zero
  sound_make s =
      let whole = and_make _ _ (le-leb 24 (length l) s.fields) (eq-eqb (length_field l) (length l) s.uncut) in
      let zero-sums : both_zero (fletcher 0 0 (drop 2 l)) ≡ true = rw s.checksum refl in
      let check = and_make _ _ (not_make (eqb (be16 l 16) 0) (λ t. s.checksum_some (eqb-true (be16 l 16) 0 t))) zero-sums in
      let sound = every_make (entry_good l) (links_field l) (λ k h. entry_make (router_field l) (s.entries k h)) in
      let apart = every_make (entry_new l) (links_field l) (λ k h. every_make _ k (λ j m. apart_make (entry_at l j) (entry_at l k) (s.neighbours j k m h))) in
      and_make _ _ (and_make _ _ (and_make _ _ (and_make _ _ (and_make _ _ whole
      (eq-eqb (length l) (24 + 12 * links_field l) s.filled)) (eq-eqb (byte_at l 3) 1 s.type)) check) sound) apart

-- An LSA passes the tests exactly when it is good: test by test, each is its cause's negation.
pub good_gives : (b : Bytes) (i : ℕ) → lsa_good b i ≡ true → GoodLsa b i
unfolding lsa_good router_new
good_gives b i t = record {
  sound = sound_gives (lsa_bytes b i) (and_left (sound_lsa (lsa_bytes b i)) _ t);
  new = λ j h. eqb-false _ _ (not-true _ (every_gives _ i (and_right (sound_lsa (lsa_bytes b i)) _ t) j h));
}

pub good_make : (b : Bytes) (i : ℕ) → GoodLsa b i → lsa_good b i ≡ true
unfolding lsa_good router_new
good_make b i g = and_make _ _ (sound_make (lsa_bytes b i) g.sound) (every_make _ i (λ j h. not_make _ (λ t. g.new j h (eqb-true _ _ t))))
