-- What the sets mean: where the distances on both sides of the test are those of one network, and the target is a router, they are the sets
-- of the routers that avoid the link as document 01 says it, by every walk.
-- Assumes nothing.
use Prim.Native.Nat.{ℕ, ◌+◌, ◌<◌, min}
use Rattle.std.specs.Prelude.{◌≡◌, refl, List, length}
use Rattle.std.proofs.Math.Path.{sym}
use Rattle.std.proofs.Common.{◌∙◌}
use Rattle.std.proofs.Math.Bool.{true}
use native.Mathlib.Omega.{arith}
use borrow.Author.Tests.{ltb-true, lt-ltb}
use Rattle.lfa.specs.Network.{Arc, router}
use Rattle.lfa.specs.Distance.{unreachable, towards}
use Rattle.lfa.specs.Walk.{avoids}
use Rattle.lfa.specs.Space.{Protected, set_of}
use Rattle.lfa.proofs.Laws.Test.{and_left, and_right, and_make, same_test}
use Rattle.lfa.proofs.Laws.Set.{set_of_same}
use Rattle.lfa.proofs.Laws.Target.{towards_router}
use Rattle.lfa.proofs.Laws.Walk.{router_none_leaves}
use Rattle.lfa.proofs.Laws.Bound.{falls}
use Rattle.lfa.proofs.Laws.Visit.{misses, misses_sum}
use Rattle.lfa.proofs.Laws.Avoid.{avoids_gives, avoids_make, avoids_below, below_avoids}
use Rattle.metric.specs.Area.{held}
use Rattle.metric.proofs.Laws.Fit.{cells_fit_lem}
use Rattle.avoid.specs.Avoiding.{clears, clears_to, misses_to}
use Rattle.avoid.specs.Calls.{Readable, avoiding_to, avoiding_from, missing_from}
use Rattle.avoid.specs.Known.{Known}
use Rattle.avoid.specs.Laws.Calls.{to_known, from_known}

module _ (n : ℕ) (hops : List Arc) (q : Protected) (area : List ℕ) (known : Known n hops q area) where
  abbrev d : ℕ → ℕ → ℕ
  d = held n area

  near_in : q.near < n
  near_in = known.sound.within.from known.named.outward

  far_in : q.far < n
  far_in = known.sound.within.to known.named.outward

  pub can_read : Readable n q area
  can_read = record { few = known.sound.few; long = known.long; near_in = near_in; far_in = far_in }

  -- Towards a router the test by distances decides avoiding: the sums are at most unreachable, so a distance below them is finite.
  module _ (t : ℕ) (h : ℕ → ℕ) (same : (z : ℕ) → z < n → h z ≡ towards d (router t) z) where
    pub clears_avoids : (x : ℕ) → x < n → clears h d q h x ≡ avoids n hops d (router t) q.number x
    unfolding clears
    clears_avoids x i = same_test _ _ there back
      where
        there : clears h d q h x ≡ true → avoids n hops d (router t) q.number x ≡ true
        there e =
            let out : h x < min (d x q.near + q.out + h q.far) unreachable = search (ltb-true, and_left) in
            let back : h x < min (d x q.far + q.back + h q.near) unreachable = search (ltb-true, and_right) in
            let ex = same x i in
            let es = same q.near near_in in
            let ee = same q.far far_in in
            avoids_make n hops d (router t) q.number x (below_avoids hops d q known.costs known.named (router t) x (record { finite = omega arith; out = omega arith; back = omega arith }))

        back : avoids n hops d (router t) q.number x ≡ true → clears h d q h x ≡ true
        back e =
            let g = falls known.sound d (router t) in
            let b = avoids_below hops d q known.costs known.named (router t) (router_none_leaves d t known.sound.descends known.costs) x (avoids_gives n hops d (router t) g.0 known.sound.within g.1 q.number x i e) in
            let ex = same x i in
            let es = same q.near near_in in
            let ee = same q.far far_in in
            let out : h x < min (d x q.near + q.out + h q.far) unreachable = omega (arith, b.finite, b.out) in
            let back : h x < min (d x q.far + q.back + h q.near) unreachable = omega (arith, b.finite, b.back) in
            and_make _ _ (lt-ltb _ _ out) (lt-ltb _ _ back)

  pub clears_to_avoids : (x r : ℕ) → x < n → clears_to d d q x r ≡ avoids n hops d (router r) q.number x
  unfolding clears_to
  clears_to_avoids x r i = clears_avoids r (λ z. d z r) (λ z k. sym (towards_router d r z (known.costs.most z r))) x i

  -- The answers of the two public functions, by walks.
  pub avoiding_to_lem : (t : ℕ) (h : ℕ → ℕ) → ((z : ℕ) → z < n → h z ≡ towards d (router t) z) → avoiding_to n q h area h ≡ set_of n (avoids n hops d (router t) q.number)
  avoiding_to_lem t h same = to_known can_read h h refl ∙ set_of_same n _ _ (clears_avoids t h same)

  pub avoiding_from_lem : (x : ℕ) → x < n → avoiding_from n q area area x ≡ set_of n (λ r. avoids n hops d (router r) q.number x)
  avoiding_from_lem x i = from_known can_read can_read x i refl ∙ set_of_same n _ _ (λ r k. clears_to_avoids x r i)

  -- To these routers, and to no others that x reaches, every walk from x misses router v.
  pub missing_from_lem : (v x : ℕ) → v < n → x < n → missing_from n v area x ≡ set_of n (λ r. misses n hops d (router r) v x)
  unfolding missing_from misses_to
  missing_from_lem v x hv hx =
      rw (cells_fit_lem n (length area) known.sound.few known.long, lt-ltb v n hv, lt-ltb x n hx, missing_from)
      (set_of_same n _ _ (λ r k. sym (misses_sum n hops d known.sound known.costs v r x hx)))
