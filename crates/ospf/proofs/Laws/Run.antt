-- Going over a run finds its first bad LSA, or that the run is its good LSAs end to end.
-- Assumes nothing.
use Prim.Native.Nat.{ℕ, zero, suc, ◌+◌, ◌-◌, ◌≤◌, ◌<◌, min}
use Rattle.std.specs.Prelude.{◌≡◌, ◌⊎◌, Bool, map, ltb, take, drop}
use Rattle.std.proofs.Math.Path.{refl, ap}
use Rattle.std.proofs.Common.{sym, ◌∙◌, inl, inr, eq-or-lt_of_le, le_of_suc-le-suc, not-suc-le-zero, length-take, length-drop, get_or-take}
use Rattle.std.proofs.Math.Bool.{true, false, false≢true}
use native.Mathlib.Omega.{arith}
use Rattle.std.proofs.Math.Nat.{zero-add}
use Rattle.std.proofs.Math.Dec.{leb}
use Rattle.std.proofs.Math.ListN.{length}
use borrow.Author.Tests.{leb-true, leb-false, ltb-true, ltb-false}
use Rattle.lfa.specs.Lists.{below, count_up, flat}
use Rattle.lfa.specs.File.{Bytes, byte_at, part_of}
use Rattle.lfa.proofs.Laws.Test.{decide}
use Rattle.lfa.proofs.Laws.File.Parts.{part_none, parts_join, part_whole}
use Rattle.ospf.specs.Lsa.{be16, length_field}
use Rattle.ospf.specs.Run.{Passed, begin_of, lsa_bytes, lsa_good, GoodLsa, FirstBad, WholeRun, Scanned, bad_at, whole, scan_from, scan}
use Rattle.ospf.proofs.Laws.Lsa.{good_gives, good_make}

-- ---- where the next LSA begins

-- the length field of an LSA's bytes is the one read in the run
length_same : (l : Bytes) (n : ℕ) → 20 ≤ n → length_field (take n l) ≡ length_field l
unfolding length_field be16 byte_at
length_same l n h = rw (get_or-take n l 18 0 (omega arith), get_or-take n l (18 + 1) 0 (omega arith))

module _ (b : Bytes) where
  abbrev size_of : ℕ → ℕ
  size_of i = length_field (drop (begin_of b i) b)

  bytes_long : (i : ℕ) → length (lsa_bytes b i) ≡ min (size_of i) (length b - begin_of b i)
  unfolding lsa_bytes part_of
  bytes_long i = simp (length-take, length-drop)

  -- A good LSA has its whole length in the run, at least 24 bytes.
  pub good_long : (i : ℕ) → GoodLsa b i → (24 ≤ size_of i) × (begin_of b i + size_of i ≤ length b) × (length (lsa_bytes b i) ≡ size_of i)
  unfolding lsa_bytes part_of
  good_long i g =
      let s = g.sound in
      let n = bytes_long i in
      let f = s.fields in
      let big : 20 ≤ size_of i = omega arith in
      let e : length_field (lsa_bytes b i) ≡ size_of i = length_same (drop (begin_of b i) b) (size_of i) big in
      let u = s.uncut in
      (omega arith, omega arith, omega arith)

  pub begin_more : (i : ℕ) → begin_of b (suc i) ≡ begin_of b i + size_of i
  unfolding begin_of
  begin_more i = refl

  pub passed_none : Passed b 0
  unfolding begin_of
  passed_none = record { good = λ j h. absurd (not-suc-le-zero h); far = omega arith; inside = omega arith }

  pub passed_more : (i : ℕ) → Passed b i → GoodLsa b i → Passed b (suc i)
  passed_more i p g =
      let l = good_long i g in
      let m = begin_more i in
      record {
        good = λ j h. go j (eq-or-lt_of_le (le_of_suc-le-suc h));
        far = omega (arith, p.far);
        inside = omega arith;
      }
    where
      go : (j : ℕ) → (j ≡ i) ⊎ (j < i) → GoodLsa b j
      go j (inl e) = rw e g
      go j (inr h) = p.good j h

  passed_to : (i : ℕ) → ((j : ℕ) → j < i → GoodLsa b j) → Passed b i
  passed_to zero good = passed_none
  passed_to (suc i) good = passed_more i (passed_to i (λ j h. good j (omega arith))) (good i (omega arith))

  -- a run without bad LSAs has been passed
  pub whole_passed : (n : ℕ) → WholeRun b n → Passed b n
  whole_passed n w = passed_to n w.good

  -- what a scan tells
  abbrev pub Found : Scanned → Type 0
  Found (bad_at k) = FirstBad b k
  Found (whole n) = WholeRun b n

  scan_found : (i most : ℕ) → Passed b i → length b ≤ i + most → Found (scan_from b i most)
  unfolding scan_from
  scan_found i zero p h = record { good = p.good; ends = omega (arith, p.far, p.inside) }
  scan_found i (suc most) p h = go (leb (length b) (begin_of b i)) refl (lsa_good b i) refl (λ q. scan_found (suc i) most q (omega arith))
    where
      go : (e : Bool) → leb (length b) (begin_of b i) ≡ e → (g : Bool) → lsa_good b i ≡ g → (Passed b (suc i) → Found (scan_from b (suc i) most)) →
          Found (elim e as (λ _. Scanned) [ true ↦ whole i | false ↦ elim g as (λ _. Scanned) [ true ↦ scan_from b (suc i) most | false ↦ bad_at i ] ])
      go true s g t rest = record { good = p.good; ends = omega (arith, leb-true (length b) (begin_of b i) s, p.inside) }
      go false s true t rest = rest (passed_more i p (good_gives b i t))
      go false s false t rest = record { there = leb-false (length b) (begin_of b i) s; bad = λ g. false≢true (sym t ∙ good_make b i g); before = p.good }

  -- The scan finds what the run is. Each good LSA has at least 24 bytes, so that after i of them at least i bytes are passed: the scan, over
  -- as many LSAs as there are bytes, cannot end before the run does.
  pub scanned : Found (scan b)
  unfolding scan
  scanned = scan_found 0 (length b) passed_none (omega arith)

  -- ---- and nothing else: a run has one first bad LSA, or is so many LSAs, and not both

  begin_rises : (i k : ℕ) → begin_of b i ≤ begin_of b (i + k)
  begin_rises i zero = let e : i + 0 ≡ i = omega arith in rw e (omega arith)
  begin_rises i (suc k) =
      let e : i + suc k ≡ suc (i + k) = omega arith in
      rw e (omega (arith, begin_rises i k, begin_more (i + k)))

  begin_grows : (i k : ℕ) → i ≤ k → begin_of b i ≤ begin_of b k
  begin_grows i k h = let e : i + (k - i) ≡ k = omega arith in rw e at (begin_rises i (k - i))

  clash : (k n : ℕ) → FirstBad b k → WholeRun b n → ⊥
  clash k n f w = go (decide (ltb k n))
    where
      go : (ltb k n ≡ true) ⊎ (ltb k n ≡ false) → ⊥
      go (inl t) = f.bad (w.good k (ltb-true k n t))
      go (inr t) = omega (arith, begin_grows n k (ltb-false k n t), f.there, w.ends)

  bad_once : (j k : ℕ) → FirstBad b j → FirstBad b k → (j < k) → ⊥
  bad_once j k f g h = f.bad (g.before j h)

  whole_once : (m n : ℕ) → WholeRun b m → WholeRun b n → (m < n) → ⊥
  whole_once m n v w h =
      let l = good_long m (w.good m h) in
      omega (arith, begin_more m, begin_grows (suc m) n h, v.ends, w.ends)

  same_number : (j k : ℕ) → (j < k → ⊥) → (k < j → ⊥) → j ≡ k
  same_number j k f g = go (decide (ltb j k)) (decide (ltb k j))
    where
      go : (ltb j k ≡ true) ⊎ (ltb j k ≡ false) → (ltb k j ≡ true) ⊎ (ltb k j ≡ false) → j ≡ k
      go (inl t) o = absurd (f (ltb-true j k t))
      go (inr t) (inl u) = absurd (g (ltb-true k j u))
      go (inr t) (inr u) = omega (arith, ltb-false)

  pub bad_scanned : (k : ℕ) → FirstBad b k → scan b ≡ bad_at k
  bad_scanned k f = go (scan b) scanned
    where
      go : (s : Scanned) → Found s → s ≡ bad_at k
      go (bad_at j) g = ap bad_at (same_number j k (bad_once j k g f) (bad_once k j f g))
      go (whole n) w = absurd (clash k n f w)

  pub whole_scanned : (n : ℕ) → WholeRun b n → scan b ≡ whole n
  whole_scanned n w = go (scan b) scanned
    where
      go : (s : Scanned) → Found s → s ≡ whole n
      go (bad_at k) f = absurd (clash k n f w)
      go (whole m) v = ap whole (same_number m n (whole_once m n v w) (whole_once n m w v))

  -- ---- a run without bad LSAs is its LSAs, end to end

  run_part : (i n : ℕ) → flat (map (lsa_bytes b) (count_up i n)) ≡ part_of b (begin_of b i) (begin_of b (i + n) - begin_of b i)
  unfolding flat count_up lsa_bytes
  run_part i zero = let z : begin_of b (i + 0) - begin_of b i ≡ 0 = rw (let e : i + 0 ≡ i = omega arith in e) (omega arith) in rw z (sym (part_none b (begin_of b i)))
  run_part i (suc n) =
      let e : i + suc n ≡ suc i + n = omega arith in
      let more = begin_more i in
      let grows = begin_grows (suc i) (suc i + n) (omega arith) in
      let len : size_of i + (begin_of b (suc i + n) - begin_of b (suc i)) ≡ begin_of b (suc i + n) - begin_of b i = omega arith in
      rw (e, run_part (suc i) n, ← len, more) (parts_join b (begin_of b i) (size_of i) (begin_of b (suc i + n) - (begin_of b i + size_of i)))

  pub run_whole : (n : ℕ) → WholeRun b n → flat (map (lsa_bytes b) (below n)) ≡ b
  unfolding below begin_of
  run_whole n w =
      let e : begin_of b (0 + n) - 0 ≡ length b = rw zero-add (omega (arith, w.ends)) in
      run_part 0 n ∙ ap (part_of b 0) e ∙ part_whole b (length b) refl
