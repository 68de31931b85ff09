-- What decides whether one LSA is sound.
-- Assumes nothing.
use Prim.Native.Nat.{ℕ, ◌+◌, ◌*◌, ◌≤◌}
use mathlib.Core.Path.{◌≡◌, refl, sym, ◌∙◌}
use mathlib.Core.Bool.{Bool, true, false, not, ◌&&◌}
use lib.Dec.{eqb}
use lib.ListN.{get_or, length, drop}
use borrow.Author.Tests.{eq-eqb, ne_eqb, le-leb}
use Rattle.lfa.specs.Lists.{every_below}
use Rattle.lfa.specs.File.{Bytes, byte_at}
use Rattle.lfa.proofs.Laws.Test.{fails_right}
use Rattle.ospf.specs.Lsa.{be16, be32, entry, sound_entry, same_neighbour, entry_at, entry_good, entry_new, length_field, router_field, links_field, whole_good, filled_good, type_good, checksum_good, both_zero, fletcher, sound_lsa}

-- ---- links

pub good_entry : (l : Bytes) (k router id metric : ℕ) → router ≡ router_field l → id ≡ be32 l (24 + 12 * k) → metric ≡ be16 l (34 + 12 * k) →
    sound_entry router (entry id 0 (get_or l (32 + 12 * k) 0) (get_or l (33 + 12 * k) 0) metric) ≡ entry_good l k
unfolding entry_good entry_at sound_entry byte_at
good_entry l k router id metric p q r = rw (p, q, r)

pub same_entries : (l : Bytes) (k j id id2 : ℕ) → id ≡ be32 l (24 + 12 * k) → id2 ≡ be32 l (24 + 12 * j) →
    same_neighbour (entry id 0 (get_or l (32 + 12 * k) 0) 0 0) (entry id2 0 (get_or l (32 + 12 * j) 0) 0 0) ≡ same_neighbour (entry_at l k) (entry_at l j)
unfolding entry_at same_neighbour byte_at
same_entries l k j id id2 p q = rw (p, q)

-- ---- one LSA

module _ (l : Bytes) (fields : 24 ≤ length l) (uncut : length_field l ≡ length l) where
  sound_as : (links : ℕ) → links ≡ links_field l →
      sound_lsa l ≡ (eqb (length l) (24 + 12 * links) && eqb (byte_at l 3) 1 && checksum_good l && every_below (entry_good l) links && every_below (entry_new l) links)
  unfolding sound_lsa whole_good filled_good type_good
  sound_as links e = rw (e, le-leb 24 (length l) fields, eq-eqb (length_field l) (length l) uncut)

  pub not_filled : (links : ℕ) → links ≡ links_field l → (length l ≡ 24 + 12 * links → ⊥) → false ≡ sound_lsa l
  not_filled links e h = rw (sound_as links e, ne_eqb (length l) (24 + 12 * links) h)

  pub other_type_lem : (get_or l 3 0 ≡ 1 → ⊥) → false ≡ sound_lsa l
  unfolding byte_at
  other_type_lem h = rw (sound_as (links_field l) refl, ne_eqb (get_or l 3 0) 1 h) (go (eqb (length l) (24 + 12 * links_field l)))
    where
      go : (b : Bool) → false ≡ (b && false && checksum_good l && every_below (entry_good l) (links_field l) && every_below (entry_new l) (links_field l))
      go true = refl
      go false = refl

  fails_third : (a b c d e : Bool) → c ≡ false → false ≡ (a && b && c && d && e)
  fails_third true true c d e h = rw h
  fails_third true false c d e h = refl
  fails_third false b c d e h = refl

  fails_fourth : (a b c d e : Bool) → d ≡ false → false ≡ (a && b && c && d && e)
  fails_fourth true true true d e h = rw h
  fails_fourth true true false d e h = refl
  fails_fourth true false c d e h = refl
  fails_fourth false b c d e h = refl

  pub no_checksum : (sum : ℕ) → sum ≡ be16 l 16 → sum ≡ 0 → false ≡ sound_lsa l
  unfolding checksum_good
  no_checksum sum e h =
      let z : checksum_good l ≡ false = rw (eq-eqb (be16 l 16) 0 (sym e ∙ h)) refl in
      rw (sound_as (links_field l) refl) (fails_third (eqb (length l) (24 + 12 * links_field l)) (eqb (byte_at l 3) 1) (checksum_good l) (every_below (entry_good l) (links_field l)) (every_below (entry_new l) (links_field l)) z)

  pub wrong_sums_lem : (r : Bool) → r ≡ both_zero (fletcher 0 0 (drop 2 l)) → r ≡ false → false ≡ sound_lsa l
  unfolding checksum_good
  wrong_sums_lem r e h =
      let z : checksum_good l ≡ false = fails_right (not (eqb (be16 l 16) 0)) _ (sym e ∙ h) in
      rw (sound_as (links_field l) refl) (fails_third (eqb (length l) (24 + 12 * links_field l)) (eqb (byte_at l 3) 1) (checksum_good l) (every_below (entry_good l) (links_field l)) (every_below (entry_new l) (links_field l)) z)

  pub bad_entries : (links : ℕ) (r : Bool) → links ≡ links_field l → r ≡ every_below (entry_good l) links → r ≡ false → false ≡ sound_lsa l
  bad_entries links r n e h = rw (sound_as links n) (fails_fourth (eqb (length l) (24 + 12 * links)) (eqb (byte_at l 3) 1) (checksum_good l) (every_below (entry_good l) links) (every_below (entry_new l) links) (sym e ∙ h))

  pub rest_sound : (links sum : ℕ) (zero good new : Bool) → links ≡ links_field l → length l ≡ 24 + 12 * links → get_or l 3 0 ≡ 1 → sum ≡ be16 l 16 → (sum ≡ 0 → ⊥) →
      zero ≡ both_zero (fletcher 0 0 (drop 2 l)) → zero ≡ true → good ≡ every_below (entry_good l) links → good ≡ true → new ≡ every_below (entry_new l) links → new ≡ sound_lsa l
  unfolding checksum_good byte_at
  rest_sound links sum zero good new n long type s some z zt g gt w =
      let c : checksum_good l ≡ true = rw (ne_eqb (be16 l 16) 0 (λ q. some (s ∙ q)), sym z ∙ zt) in
      rw (sound_as links n, eq-eqb (length l) (24 + 12 * links) long, eq-eqb (get_or l 3 0) 1 type, c, sym g ∙ gt) w
