-- What decides whether LSA i of a run is good, and what the scan finds then.
-- Assumes nothing.
use Prim.Native.Nat.{ℕ, suc, ◌+◌, ◌-◌, ◌≤◌, ◌<◌}
use mathlib.Core.Path.{◌≡◌, refl, sym, ap, ◌∙◌}
use mathlib.Core.Bool.{Bool, true, false, false≢true}
use native.Mathlib.Omega.{arith}
use native.Mathlib.Numerals.{add-one}
use lib.ListN.{length, take, drop}
use Rattle.std.specs.Prelude.{Some, None}
use Rattle.lfa.specs.File.{Bytes}
use Rattle.lfa.proofs.Laws.Test.{and_make, fails_left, fails_right, fails_make}
use Rattle.ospf.specs.Lsa.{be16, be32, length_field, router_field, sound_lsa}
use Rattle.ospf.specs.Run.{begin_of, lsa_bytes, router_new, lsa_good, GoodLsa, scan, bad_at, whole}
use Rattle.ospf.proofs.Laws.Lsa.{good_gives, good_make}
use Rattle.ospf.proofs.Laws.Run.{good_long, begin_more, passed_more, bad_scanned, whole_scanned}
use Rattle.ospf.specs.Run.{Passed}
use Rattle.ospf.proofs.Laws.Reading.{half_at, half_taken, size_is, part_is, part_long}
use Rattle.router_lsa.specs.Scan.{new_router, next_after}

-- ---- LSA i is bad, or good

module _ (b : Bytes) (i at : ℕ) (begins : at ≡ begin_of b i) where
  bad_next : lsa_good b i ≡ false → None ≡ next_after b i
  unfolding next_after
  bad_next e = rw (e, next_after)

  is_bad : (GoodLsa b i → ⊥) → lsa_good b i ≡ false
  is_bad h = fails_make (lsa_good b i) (λ t. h (good_gives b i t))

  -- fewer than 24 bytes are left, or fewer than its length field says, or that says fewer than 24
  pub next_short : length b - at < 24 → None ≡ next_after b i
  next_short h = bad_next (is_bad (λ g. let r = good_long b i g in omega (arith, r.0, r.1)))

  pub next_small : (size : ℕ) → size ≡ be16 b (at + 18) → size < 24 → None ≡ next_after b i
  next_small size e h = bad_next (is_bad (λ g.
      let r = good_long b i g in
      let q = size_is b i at begins size e in
      omega (arith, r.0)))

  pub next_cut : (size : ℕ) → size ≡ be16 b (at + 18) → length b - at < size → None ≡ next_after b i
  next_cut size e h = bad_next (is_bad (λ g.
      let r = good_long b i g in
      let q = size_is b i at begins size e in
      omega (arith, r.1)))

  -- the part that is taken for LSA i
  module _ (size : ℕ) (e : size ≡ be16 b (at + 18)) (some : 24 ≤ size) (fits : at + size ≤ length b) where
    pub cut_long : length (take (at + size - at) (drop at b)) ≡ size
    cut_long = part_long b at size fits

    pub part_uncut : length_field (take (at + size - at) (drop at b)) ≡ length (take (at + size - at) (drop at b))
    unfolding length_field
    part_uncut =
        let d : at + size - at ≡ size = omega arith in
        rw cut_long (rw d (half_taken (drop at b) size 18 (omega arith) ∙ half_at b at 18 ∙ sym e))

    pub next_unsound : (r : Bool) → r ≡ sound_lsa (take (at + size - at) (drop at b)) → r ≡ false → None ≡ next_after b i
    unfolding lsa_good
    next_unsound r q h = bad_next (fails_left _ _ (sym (q ∙ ap sound_lsa (part_is b i at begins size e)) ∙ h))

    router_is : (router : ℕ) → router ≡ be32 (take (at + size - at) (drop at b)) 4 → router ≡ router_field (lsa_bytes b i)
    unfolding router_field
    router_is router q = q ∙ ap (λ (l : Bytes). be32 l 4) (part_is b i at begins size e)

    new_is : (router : ℕ) → router ≡ be32 (take (at + size - at) (drop at b)) 4 → new_router b i router ≡ router_new b i
    unfolding new_router router_new
    new_is router q = rw (router_is router q)

    pub next_named : (router : ℕ) (r : Bool) → router ≡ be32 (take (at + size - at) (drop at b)) 4 → r ≡ new_router b i router → r ≡ false → None ≡ next_after b i
    unfolding lsa_good
    next_named router r q w h = bad_next (fails_right (sound_lsa (lsa_bytes b i)) _ (sym (w ∙ new_is router q) ∙ h))

    pub next_good : (router : ℕ) (s r : Bool) → s ≡ sound_lsa (take (at + size - at) (drop at b)) → s ≡ true → router ≡ be32 (take (at + size - at) (drop at b)) 4 →
        r ≡ new_router b i router → r ≡ true → Some (at + size) ≡ next_after b i
    unfolding lsa_good next_after
    next_good router s r p pt q w wt =
        let g : lsa_good b i ≡ true = and_make _ _ (sym (p ∙ ap sound_lsa (part_is b i at begins size e)) ∙ pt) (sym (w ∙ new_is router q) ∙ wt) in
        let n = begin_more b i in
        let z = size_is b i at begins size e in
        let m : at + size ≡ begin_of b (suc i) = omega arith in
        rw (g, next_after) (ap Some m)

-- ---- the scan

module _ (b : Bytes) (i : ℕ) where
  -- what is found after LSA i tells whether it is good
  bad_of : None ≡ next_after b i → lsa_good b i ≡ false
  unfolding next_after
  bad_of e = go (lsa_good b i) refl
    where
      go : (r : Bool) → lsa_good b i ≡ r → lsa_good b i ≡ false
      go true g = let h : None ≡ Some (begin_of b (suc i)) = e ∙ rw (g, next_after) in absurd (cc)
      go false g = g

  good_of : {next : ℕ} → Some next ≡ next_after b i → (lsa_good b i ≡ true) × (next ≡ begin_of b (suc i))
  unfolding next_after
  good_of {next} e = go (lsa_good b i) refl
    where
      go : (r : Bool) → lsa_good b i ≡ r → (lsa_good b i ≡ true) × (next ≡ begin_of b (suc i))
      go true g = let h : Some next ≡ Some (begin_of b (suc i)) = e ∙ rw (g, next_after) in (g, cc)
      go false g = let h : Some next ≡ None = e ∙ rw (g, next_after) in absurd (cc)

module _ (b : Bytes) (i at : ℕ) (begin : at ≡ begin_of b i) (so_far : Passed b i) where
  pub scan_bad : at < length b → None ≡ next_after b i → bad_at i ≡ scan b
  scan_bad h e = sym (bad_scanned b i (record { there = rw begin at h; bad = λ good. false≢true (sym (bad_of b i e) ∙ good_make b i good); before = so_far.good }))

  -- after a good LSA
  pub record Onward (next : ℕ) : Type 0 where
    pub passed : Passed b (i + 1)
    pub begins : next ≡ begin_of b (i + 1)
    pub more : at < next

  pub scan_good : {next : ℕ} → Some next ≡ next_after b i → Onward next
  scan_good {next} e =
      let g = good_of b i e in
      let good = good_gives b i g.0 in
      let h = good_long b i good in
      let m = begin_more b i in
      record { passed = rw (add-one i) (passed_more b i so_far good); begins = rw (add-one i) g.1; more = omega (arith, h.0, g.1) }

pub scan_whole : (b : Bytes) (i at : ℕ) → at ≡ begin_of b i → Passed b i → length b ≤ at → whole i ≡ scan b
scan_whole b i at e p h = sym (whole_scanned b i (record { good = p.good; ends = omega (arith, p.inside) }))
