-- Every walk arrives, in fewer hops than there are routers: some number falls at each step, so that fewer and fewer routers
-- have a smaller one.
-- Assumes nothing.
use Prim.Native.Nat.{ℕ, zero, suc, ◌+◌, ◌≤◌, ◌<◌}
use Rattle.std.specs.Prelude.{◌≡◌, refl, ◌⊎◌, Bool}
use Rattle.std.proofs.Common.{inl, inr, ap, eq-or-lt_of_le, le_of_suc-le-suc}
use Rattle.std.proofs.Math.Bool.{true, false}
use mathlib.Core.List.{List}
use native.Mathlib.Omega.{arith}
use Rattle.std.proofs.Math.Dec.{ltb}
use borrow.Author.Tests.{ltb-true, lt-ltb, le-ltb}
use Rattle.lfa.specs.Lists.{one, count}
use Rattle.lfa.specs.Network.{Arc, Target}
use Rattle.lfa.specs.Distance.{unreachable, LeastCosts, towards}
use Rattle.lfa.specs.Walk.{Step, WalkBy, Walk, here, hop, Arrives}
use Rattle.lfa.proofs.Laws.Walk.{measure, step_lowers, walk_finite, onward}
use Rattle.lfa.specs.Sound.{Descends, Within}

one_mono : (a b : Bool) → (a ≡ true → b ≡ true) → one a ≤ one b
one_mono true b f = rw (f refl) (omega arith)
one_mono false b f = omega arith

pub one_most : (a : Bool) → one a ≤ 1
one_most true = omega arith
one_most false = omega arith

module _ (p q : ℕ → Bool) (more : (i : ℕ) → p i ≡ true → q i ≡ true) where
  count_mono : (n : ℕ) → count p n ≤ count q n
  unfolding count
  count_mono zero = omega arith
  count_mono (suc n) = omega (arith, count_mono n, one_mono (p n) (q n) (more n))

  count_strict : (n z : ℕ) → z < n → p z ≡ false → q z ≡ true → count p n < count q n
  unfolding count
  count_strict zero z h f t = omega arith
  count_strict (suc n) z h f t = go (λ (k : z < n). count_strict n z k f t) (eq-or-lt_of_le (le_of_suc-le-suc h))
    where
      go : (z < n → count p n < count q n) → (z ≡ n) ⊎ (z < n) → one (p n) + count p n < one (q n) + count q n
      go below (inl e) =
          let f' : p n ≡ false = rw e at f in
          let t' : q n ≡ true = rw e at t in
          rw (f', t') (omega (arith, count_mono n))
      go below (inr k) = omega (arith, below k, one_mono (p n) (q n) (more n))

count_all : (n : ℕ) → count (λ _. true) n ≡ n
unfolding count
count_all zero = refl
count_all (suc n) = omega (arith, count_all n)

count_most : (p : ℕ → Bool) (n z : ℕ) → z < n → p z ≡ false → count p n < n
count_most p n z h f = omega (arith, count_strict p (λ _. true) (λ i e. refl) n z h f refl, count_all n)

-- how many of the routers below n have a number below b
unfoldable pub rank : (ℕ → ℕ) → ℕ → ℕ → ℕ
rank m n b = count (λ i. ltb (m i) b) n

-- the router itself has none below its own number
pub rank_few : (m : ℕ → ℕ) (n x : ℕ) → x < n → rank m n (m x) < n
unfolding rank
rank_few m n x i = count_most (λ j. ltb (m j) (m x)) n x i (le-ltb (m x) (m x) (omega arith))

-- ---- walks by any steps

-- some number falls at each step
pub record FallsBy (steps : ℕ → ℕ → ℕ → Type 0) (m : ℕ → ℕ) : Type 0 where
  pub fall : {x z l : ℕ} → steps x z l → m z < m x

-- the steps lead to routers below n
pub record WithinBy (steps : ℕ → ℕ → ℕ → Type 0) (n : ℕ) : Type 0 where
  pub to : {x z l : ℕ} → steps x z l → z < n

module _ (steps : ℕ → ℕ → ℕ → Type 0) (n : ℕ) (m : ℕ → ℕ) (within : WithinBy steps n) (falls : FallsBy steps m) where
  pub rank_falls_by : {x z l : ℕ} → steps x z l → rank m n (m z) < rank m n (m x)
  unfolding rank
  rank_falls_by {x} {z} s =
      let low : m z < m x = falls.fall s in
      count_strict (λ i. ltb (m i) (m z)) (λ i. ltb (m i) (m x))
      (λ i e. lt-ltb (m i) (m x) (omega (arith, ltb-true (m i) (m z) e)))
      n z (within.to s) (le-ltb (m z) (m z) (omega arith)) (lt-ltb (m z) (m x) low)

  rank_walk : {x u k : ℕ} → WalkBy steps x u k → k + rank m n (m u) ≤ rank m n (m x)
  rank_walk here = omega arith
  rank_walk (hop s w) = omega (arith, rank_falls_by s, rank_walk w)

  -- A walk from a router has fewer than N hops: the rank of a router, how many of the N have a smaller number, is below N and falls at
  -- each step.
  pub walk_few_by : {x u k : ℕ} → x < n → WalkBy steps x u k → k < n
  walk_few_by {x} i w = omega (arith, rank_walk w, rank_few m n x i)

  walk_falls : {x u k : ℕ} → WalkBy steps x u k → m u ≤ m x
  walk_falls here = omega arith
  walk_falls (hop s w) = omega (arith, falls.fall s, walk_falls w)

  -- No walk visits a router twice: each hop lowers the number, so that a walk of one hop or more does not come back.
  never_back : {x u k : ℕ} → WalkBy steps x u (suc k) → x ≡ u → ⊥
  never_back (hop s w) e = omega (arith, falls.fall s, walk_falls w, ap m e)

  pub never_twice_by : {x k : ℕ} → WalkBy steps x x (suc k) → ⊥
  never_twice_by w = never_back w refl

-- ---- walks towards a target

abbrev pub Falls : List Arc → (ℕ → ℕ → ℕ) → Target → (ℕ → ℕ) → Type 0
Falls hops d to m = FallsBy (Step hops d to) m

-- where the hops descend, the measure does
pub measure_falls : {hops : List Arc} {height : ℕ → ℕ} (d : ℕ → ℕ → ℕ) (to : Target) → Descends hops height → Falls hops d to (measure height d to)
measure_falls d to g = record { fall = λ s. step_lowers g s }

module _ (hops : List Arc) (d : ℕ → ℕ → ℕ) (to : Target) (n : ℕ) (m : ℕ → ℕ) (within : Within hops n) (falls : Falls hops d to m) where
  steps_within : WithinBy (Step hops d to) n
  steps_within = record { to = λ s. within.to s.joined }

  pub rank_falls : {x z l : ℕ} → Step hops d to x z l → rank m n (m z) < rank m n (m x)
  rank_falls s = rank_falls_by (Step hops d to) n m steps_within falls s

  pub walk_few : {x u k : ℕ} → x < n → Walk hops d to x u k → k < n
  walk_few = walk_few_by (Step hops d to) n m steps_within falls

  pub never_twice : {x k : ℕ} → Walk hops d to x x (suc k) → ⊥
  never_twice = never_twice_by (Step hops d to) n m steps_within falls

  -- every walk from a router at a finite distance arrives in fewer than n hops
  pub arrives : LeastCosts hops d → (x : ℕ) → x < n → towards d to x < unreachable → Arrives hops d to n x
  arrives dist x i f = record { goes = λ u k w. onward hops d to dist u (walk_finite w f); few = λ u k w. walk_few i w }
