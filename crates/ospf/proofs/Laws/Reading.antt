-- The fields of an LSA, read in the run that it stands in.
-- Assumes nothing.
use Rattle.std.specs.Prelude.{ℕ, ◌+◌, ◌-◌, ◌≤◌, ◌<◌, ◌≡◌, length, take, drop}
use Rattle.std.proofs.Common.{sym, ap, ◌∙◌, arith, add-one, length-take, length-drop, get_or-take, get_or-drop}
use Rattle.lfa.specs.File.{Bytes, byte_at, part_of}
use Rattle.ospf.specs.Lsa.{be16, be32, length_field, router_field}
use Rattle.ospf.specs.Run.{begin_of, lsa_bytes, GoodLsa}
use Rattle.ospf.proofs.Laws.Run.{good_long, begin_more}
use Rattle.ospf.specs.Run.{Passed}

-- ---- fields of a part of the bytes

pub half_at : (b : Bytes) (k n : ℕ) → be16 (drop k b) n ≡ be16 b (k + n)
unfolding be16 byte_at
half_at b k n =
    let e : k + (n + 1) ≡ k + n + 1 = omega arith in
    rw (get_or-drop k b n 0, get_or-drop k b (n + 1) 0, e)

pub half_taken : (b : Bytes) (m n : ℕ) → n + 2 ≤ m → be16 (take m b) n ≡ be16 b n
unfolding be16 byte_at
half_taken b m n h = rw (get_or-take m b n 0 (omega arith), get_or-take m b (n + 1) 0 (omega arith))

word_at_lem : (b : Bytes) (k n : ℕ) → be32 (drop k b) n ≡ be32 b (k + n)
unfolding be32
word_at_lem b k n =
    let e : k + (n + 2) ≡ k + n + 2 = omega arith in
    rw (half_at b k n, half_at b k (n + 2), e)

word_taken : (b : Bytes) (m n : ℕ) → n + 4 ≤ m → be32 (take m b) n ≡ be32 b n
unfolding be32
word_taken b m n h = rw (half_taken b m n (omega arith), half_taken b m (n + 2) (omega arith))

-- ---- LSA i of a run

module _ (b : Bytes) where
  pub size_at : (i : ℕ) → length_field (drop (begin_of b i) b) ≡ be16 b (begin_of b i + 18)
  unfolding length_field
  size_at i = half_at b (begin_of b i) 18

  router_at : (i : ℕ) → GoodLsa b i → router_field (lsa_bytes b i) ≡ be32 b (begin_of b i + 4)
  unfolding router_field lsa_bytes part_of
  router_at i g =
      let h = good_long b i g in
      word_taken (drop (begin_of b i) b) (length_field (drop (begin_of b i) b)) 4 (omega (arith, h.0)) ∙ word_at_lem b (begin_of b i) 4

  -- what is read of a good LSA
  pub record Read (i : ℕ) : Type 0 where
    pub fields : begin_of b i + 24 ≤ length b
    pub next : begin_of b (i + 1) ≡ begin_of b i + be16 b (begin_of b i + 18)
    pub inside : begin_of b i + be16 b (begin_of b i + 18) ≤ length b
    pub router : router_field (lsa_bytes b i) ≡ be32 b (begin_of b i + 4)

  pub read : (i : ℕ) → GoodLsa b i → Read i
  read i g =
      let h = good_long b i g in
      let s = size_at i in
      record {
        fields = omega (arith, h.0, h.1);
        next = rw (add-one i) (begin_more b i ∙ ap (λ (n : ℕ). begin_of b i + n) s);
        inside = omega (arith, h.1);
        router = router_at i g;
      }

-- ---- an LSA that has been passed

module _ (b : Bytes) (i j at : ℕ) (passed : Passed b i) (h : j < i) (begins : at ≡ begin_of b j) where
  pub passed_fields : at + 24 ≤ length b
  passed_fields = omega (arith, (read b j (passed.good j h)).fields)

  pub passed_next : (size : ℕ) → size ≡ be16 b (at + 18) → (at + size ≤ length b) × (at + size ≡ begin_of b (j + 1))
  passed_next size e =
      let r = read b j (passed.good j h) in
      let q : size ≡ be16 b (begin_of b j + 18) = e ∙ ap (λ (k : ℕ). be16 b (k + 18)) begins in
      (omega (arith, r.inside), omega (arith, r.next))

  pub router_read : (id : ℕ) → id ≡ be32 b (at + 4) → id ≡ router_field (lsa_bytes b j)
  router_read id e = e ∙ ap (λ (k : ℕ). be32 b (k + 4)) begins ∙ sym (read b j (passed.good j h)).router

-- ---- the part of a run that is LSA i

module _ (b : Bytes) (i at : ℕ) (begins : at ≡ begin_of b i) (size : ℕ) (e : size ≡ be16 b (at + 18)) where
  pub size_is : size ≡ length_field (drop (begin_of b i) b)
  size_is = e ∙ ap (λ (k : ℕ). be16 b (k + 18)) begins ∙ sym (size_at b i)

  pub part_is : take (at + size - at) (drop at b) ≡ lsa_bytes b i
  unfolding lsa_bytes part_of
  part_is =
      let d : at + size - at ≡ length_field (drop (begin_of b i) b) = omega (arith, size_is) in
      rw (d, begins)

pub part_long : (b : Bytes) (at size : ℕ) → at + size ≤ length b → length (take (at + size - at) (drop at b)) ≡ size
part_long b at size h = simp (length-take, length-drop) (omega arith)
