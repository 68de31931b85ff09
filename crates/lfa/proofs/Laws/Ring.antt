-- The ring: which routers its links join, and that a ring of 3 to 64 routers is within the limits where its costs are.
-- Assumes nothing.
use Rattle.std.specs.Prelude.{ℕ, ◌+◌, ◌≤◌, ◌<◌, ◌≡◌, ◌⊎◌, true, false, [], ltb, length}
use Rattle.std.proofs.Common.{sym, inl, inr, arith, ltb-true, ltb-false, lt-ltb, le-ltb}
use Rattle.std.proofs.Math.Path.{subst}
use mathlib.Core.List.Memᴰ
use Rattle.std.proofs.Math.ListN.{get_or}
use Rattle.lfa.specs.Network.{Link, link}
use Rattle.lfa.specs.FileOf.{LinkWithin, JoinSame, WithinLimits}
use Rattle.lfa.specs.Ring.{next_on_ring, ring_link, ring_of}
use Rattle.lfa.proofs.Laws.Test.{decide}
use Rattle.lfa.proofs.Laws.Counting.{length_map_below, map_below_gives, map_below_at}

-- ---- which routers the links join

-- "link i joins i and i+1 .."
pub next_on_ring_lem : (k i : ℕ) → i + 1 < k → next_on_ring k i ≡ i + 1
unfolding next_on_ring
next_on_ring_lem k i h = rw (next_on_ring, lt-ltb (i + 1) k h)

-- ".. the last joins k−1 and 0"
pub last_on_ring : (k i : ℕ) → i + 1 ≡ k → next_on_ring k i ≡ 0
unfolding next_on_ring
last_on_ring k i e = rw (next_on_ring, le-ltb (i + 1) k (omega (arith, e)))

-- one of the two
abbrev pub Next : (k i : ℕ) → Type 0
Next k i = ((i + 1 < k) × (next_on_ring k i ≡ i + 1)) ⊎ ((i + 1 ≡ k) × (next_on_ring k i ≡ 0))

pub next_either : (k i : ℕ) → i < k → Next k i
next_either k i h = go (decide (ltb (i + 1) k))
  where
    go : (ltb (i + 1) k ≡ true) ⊎ (ltb (i + 1) k ≡ false) → Next k i
    go (inl t) = let l = ltb-true (i + 1) k t in inl (l, next_on_ring_lem k i l)
    go (inr t) = let e : i + 1 ≡ k = omega (arith, ltb-false (i + 1) k t) in inr (e, last_on_ring k i e)

-- the two routers are on the ring and differ
pub next_in : (k i : ℕ) → i < k → next_on_ring k i < k
next_in k i h = go (next_either k i h)
  where
    go : Next k i → next_on_ring k i < k
    go (inl e) = omega (arith, e.0, e.1)
    go (inr e) = omega (arith, e.0, e.1)

next_other : (k i : ℕ) → 2 ≤ k → Next k i → i ≡ next_on_ring k i → ⊥
next_other k i least (inl e) same = omega (arith, e.1, same)
next_other k i least (inr e) same = omega (arith, e.0, e.1, same)

-- On a ring of 3 or more routers no later link joins the routers of an earlier one: it would have to lead back, and only on a ring of two
-- does the last link lead back to where the first started.
next_new : (k i j : ℕ) → 3 ≤ k → i < j → Next k i → Next k j → j ≡ next_on_ring k i → next_on_ring k j ≡ i → ⊥
next_new k i j least h (inl e) (inl f) there back = omega (arith, e.1, f.1, there, back)
next_new k i j least h (inl e) (inr f) there back = omega (arith, e.1, f.0, f.1, there, back)
next_new k i j least h (inr e) f there back = omega (arith, h, e.1, there)

-- ---- its links, with any costs

module _ (k : ℕ) (out back : ℕ → ℕ) where
  pub ring_long : length (ring_of k out back []).links ≡ k
  unfolding ring_of
  ring_long = length_map_below (ring_link k out back) k

  pub ring_link_lem : (i : ℕ) → i < k → get_or (ring_of k out back []).links i (link 0 0 0 0) ≡ link i (next_on_ring k i) (out i) (back i)
  unfolding ring_of ring_link
  ring_link_lem i h = map_below_at (ring_link k out back) (link 0 0 0 0) k i h

  -- a ring of 3 to 64 routers whose costs are 1 to 65,535 is within the limits
  module _ (least : 3 ≤ k) (most : k ≤ 64)
      (some : (i : ℕ) → (1 ≤ out i) × (1 ≤ back i)) (costs : (i : ℕ) → (out i ≤ 65535) × (back i ≤ 65535)) where
    abbrev LinkIn : Link → Type 0
    LinkIn (link a b ab ba) = LinkWithin k a b ab ba

    link_in_lem : (i : ℕ) → i < k → LinkIn (ring_link k out back i)
    unfolding ring_link
    link_in_lem i h = record {
      a_in = h;
      b_in = next_in k i h;
      two = next_other k i (omega arith) (next_either k i h);
      out_some = (some i).0;
      back_some = (some i).1;
      out_most = (costs i).0;
      back_most = (costs i).1;
    }

    no_parallel : (i j : ℕ) → i < j → j < k → JoinSame (ring_link k out back j) (ring_link k out back i) → ⊥
    unfolding ring_link
    no_parallel i j h l (inl s) = omega (arith, h, s.0)
    no_parallel i j h l (inr s) = next_new k i j least h (next_either k i (omega arith)) (next_either k j l) s.0 s.1

    pub ring_limits : WithinLimits (ring_of k out back [])
    unfolding ring_of
    ring_limits = record {
      some_routers = omega arith;
      few_routers = most;
      few_links = omega (arith, ring_long);
      few_prefixes = omega arith;
      link_within = λ m. let r = map_below_gives (ring_link k out back) k m in subst LinkIn (sym r.2) (link_in_lem r.0 r.1);
      no_parallel = λ i j h l s.
          let m : j < k = omega (arith, ring_long) in
          let at : (x : ℕ) → x < k → get_or (ring_of k out back []).links x (link 0 0 0 0) ≡ ring_link k out back x =
          λ x n. map_below_at (ring_link k out back) (link 0 0 0 0) k x n in
          no_parallel i j h m (rw (at j m, at i (omega arith)) at s);
      prefix_within = λ m. absurd (Memᴰ.not-nil m);
    }
