-- The legs of a route: choice bytes name one leg at most, it is a walk, and the computed leg is the one that they name.
-- Assumes nothing.
use Prim.Native.Nat.{ℕ, zero, suc, ◌+◌, ◌<◌}
use Rattle.std.specs.Prelude.{◌≡◌, Bool, true, false, eqb, length}
use Rattle.std.proofs.Math.Path.{refl}
use Rattle.std.proofs.Common.{sym, ap, ap₂, ◌∙◌, subst, arith, not-suc-le-zero, eqb-true}
use mathlib.Core.List.{List, [], ◌∷◌}
use Rattle.std.proofs.lemmas.Bool.{eqb-false}
use Rattle.lfa.specs.Network.{Arc, Target, router}
use Rattle.lfa.specs.Distance.{unreachable, LeastCosts, towards}
use Rattle.lfa.specs.Walk.{Step, Delivers, Walk, here, hop}
use Rattle.lfa.specs.Route.{HasMove, Move, deliver, go, options, choice_at, option_taken, FirstLeg, arrived, onward, SecondLeg, delivered, play_to, play_on}
use Rattle.lfa.proofs.Laws.Attached.{router_only}
use Rattle.lfa.proofs.Laws.Arrive.{Falls, rank, rank_falls}
use Rattle.lfa.specs.Sound.{Within}
use Rattle.lfa.proofs.Laws.Options.{move_next, never_both, taken}

-- ---- one leg at most is named

module _ (moves : ℕ → List Move) (choices : List ℕ) where
  -- Choice bytes name one leg and the number of bytes that it uses: at each router the next byte takes one option.
  first_leg_same : {y i x w j k : ℕ} {rs ss : List ℕ} → FirstLeg moves choices y i x rs j → FirstLeg moves choices y i w ss k → x ≡ w → (rs ≡ ss) × (j ≡ k)
  first_leg_same arrived arrived e = (refl, refl)
  first_leg_same arrived (onward away t s) e = absurd (away (sym e))
  first_leg_same (onward away t r) arrived e = absurd (away e)
  first_leg_same (onward {i} {z} {j} {rs} away t r) (onward {z = w} {j = k} {rs = ss} away' t' s) e =
      let p : z ≡ w = move_next (sym t ∙ ap (λ v. option_taken (moves v) (choice_at choices i)) e ∙ t') in
      let q = first_leg_same r s p in
      (ap₂ ◌∷◌ p q.0, q.1)

  pub first_leg_once : {y i x j k : ℕ} {rs ss : List ℕ} → FirstLeg moves choices y i x rs j → FirstLeg moves choices y i x ss k → (rs ≡ ss) × (j ≡ k)
  first_leg_once r s = first_leg_same r s refl

  pub second_leg_once : {i x : ℕ} {rs ss : List ℕ} → SecondLeg moves choices i x rs → SecondLeg moves choices i x ss → rs ≡ ss
  second_leg_once (delivered t) (delivered t') = refl
  second_leg_once (delivered t) (onward t' s) = never_both (sym t ∙ t')
  second_leg_once (onward t r) (delivered t') = never_both (sym t' ∙ t)
  second_leg_once (onward {i} {z} {rs} t r) (onward {z = w} {rs = ss} t' s) =
      let p : z ≡ w = move_next (sym t ∙ t') in
      ap₂ ◌∷◌ p (second_leg_once r (subst (λ v. SecondLeg moves choices (suc i) v ss) (sym p) s))

  -- a leg uses a byte for each router that it steps on from
  pub bytes_used : {y i x j : ℕ} {rs : List ℕ} → FirstLeg moves choices y i x rs j → j ≡ i + length rs
  bytes_used arrived = omega arith
  bytes_used (onward away t r) = omega (arith, bytes_used r)

-- ---- the legs are walks

-- the routers that a walk from x arrives at, the last of them u
pub data Trace (hops : List Arc) (d : ℕ → ℕ → ℕ) (to : Target) : ℕ → List ℕ → ℕ → Type 0 where
  ended : {x : ℕ} → Trace hops d to x [] x
  next : {x z l u : ℕ} {rs : List ℕ} → Step hops d to x z l → Trace hops d to z rs u → Trace hops d to x (z ∷ rs) u

-- a trace is a walk of as many hops
pub trace_walk : {hops : List Arc} {d : ℕ → ℕ → ℕ} {to : Target} {x u : ℕ} {rs : List ℕ} → Trace hops d to x rs u → Walk hops d to x u (length rs)
trace_walk ended = here
trace_walk (next s t) = hop s (trace_walk t)

module _ (n : ℕ) (hops : List Arc) (d : ℕ → ℕ → ℕ) (dist : LeastCosts hops d) (within : Within hops n) where
  -- A first leg is a walk to y, and a second leg a walk to a router that delivers: the option that each byte takes is a move of the walk,
  -- since every router of the leg is at a finite distance.
  pub first_leg_walk : {choices : List ℕ} {y i x j : ℕ} {rs : List ℕ} → towards d (router y) x < unreachable → FirstLeg (options n hops d (router y)) choices y i x rs j →
      Trace hops d (router y) x rs y
  first_leg_walk f arrived = ended
  first_leg_walk {choices} {y} f (onward {i} {x} {z} away t r) =
      let h = subst (λ m. HasMove hops d (router y) x m) t (taken n hops d (router y) dist within x (choice_at choices i) f) in
      next h.1 (first_leg_walk (omega (arith, h.1.tight)) r)

  pub second_leg_walk : {choices : List ℕ} {to : Target} {i x : ℕ} {rs : List ℕ} → towards d to x < unreachable → SecondLeg (options n hops d to) choices i x rs →
      (u : ℕ) × Trace hops d to x rs u × Delivers d to u
  second_leg_walk {choices} {to} f (delivered {i} {x} t) = (x, ended, subst (λ m. HasMove hops d to x m) t (taken n hops d to dist within x (choice_at choices i) f))
  second_leg_walk {choices} {to} f (onward {i} {x} {z} t r) =
      let h = subst (λ m. HasMove hops d to x m) t (taken n hops d to dist within x (choice_at choices i) f) in
      let rest = second_leg_walk (omega (arith, h.1.tight)) r in
      (rest.0, next h.1 rest.1, rest.2)

-- ---- the computed legs are the named ones

-- The computation goes on for as many rounds as there are routers, and these are enough: each step lowers the rank of the router among
-- the N by the number that falls along a walk.
module _ (n : ℕ) (hops : List Arc) (d : ℕ → ℕ → ℕ) (to : Target) (m : ℕ → ℕ) (dist : LeastCosts hops d) (within : Within hops n) (falls : Falls hops d to m) (choices : List ℕ) where
  pub second_leg_played : (fuel i x : ℕ) → towards d to x < unreachable → rank m n (m x) < fuel → SecondLeg (options n hops d to) choices i x (play_on fuel (options n hops d to) choices i x)
  unfolding play_on
  second_leg_played zero i x f h = absurd (not-suc-le-zero h)
  second_leg_played (suc fuel) i x f h =
      by (λ z. second_leg_played fuel (suc i) z) (option_taken (options n hops d to x) (choice_at choices i)) refl (taken n hops d to dist within x (choice_at choices i) f)
    where
      by : ((z : ℕ) → towards d to z < unreachable → rank m n (m z) < fuel → SecondLeg (options n hops d to) choices (suc i) z (play_on fuel (options n hops d to) choices (suc i) z)) →
          (k : Move) → option_taken (options n hops d to x) (choice_at choices i) ≡ k → HasMove hops d to x k →
          SecondLeg (options n hops d to) choices i x (elim k as (λ _. List ℕ) [ deliver ↦ [] | go z ↦ z ∷ play_on fuel (options n hops d to) choices (suc i) z ])
      by rest deliver e t = delivered e
      by rest (go z) e (l, s) = onward e (rest z (omega (arith, s.tight)) (omega (arith, rank_falls hops d to n m within falls s)))

module _ (n : ℕ) (hops : List Arc) (d : ℕ → ℕ → ℕ) (y : ℕ) (m : ℕ → ℕ) (dist : LeastCosts hops d) (within : Within hops n) (falls : Falls hops d (router y) m) (choices : List ℕ) where
  pub first_leg_played : (fuel i x : ℕ) → towards d (router y) x < unreachable → rank m n (m x) < fuel →
      (j : ℕ) × FirstLeg (options n hops d (router y)) choices y i x (play_to fuel (options n hops d (router y)) choices y i x) j
  unfolding play_to
  first_leg_played zero i x f h = absurd (not-suc-le-zero h)
  first_leg_played (suc fuel) i x f h = at_end (λ z. first_leg_played fuel (suc i) z) (eqb x y) refl
    where
      Rest : Type 0
      Rest = (z : ℕ) → towards d (router y) z < unreachable → rank m n (m z) < fuel →
          (j : ℕ) × FirstLeg (options n hops d (router y)) choices y (suc i) z (play_to fuel (options n hops d (router y)) choices y (suc i) z) j

      after : Move → List ℕ
      after k = elim k [ deliver ↦ [] | go z ↦ z ∷ play_to fuel (options n hops d (router y)) choices y (suc i) z ]

      by : Rest → eqb x y ≡ false → (k : Move) → option_taken (options n hops d (router y) x) (choice_at choices i) ≡ k → HasMove hops d (router y) x k →
          (j : ℕ) × FirstLeg (options n hops d (router y)) choices y i x (after k) j
      by rest e deliver p t = absurd (eqb-false x y e (router_only t.attached))
      by rest e (go z) p (l, s) =
          let r = rest z (omega (arith, s.tight)) (omega (arith, rank_falls hops d (router y) n m within falls s)) in
          (r.0, onward (eqb-false x y e) p r.1)

      at_end : Rest → (b : Bool) → eqb x y ≡ b →
          (j : ℕ) × FirstLeg (options n hops d (router y)) choices y i x (elim b as (λ _. List ℕ) [ true ↦ [] | false ↦ after (option_taken (options n hops d (router y) x) (choice_at choices i)) ]) j
      at_end rest true e = (i, rw (eqb-true x y e) arrived)
      at_end rest false e = by rest e (option_taken (options n hops d (router y) x) (choice_at choices i)) refl (taken n hops d (router y) dist within x (choice_at choices i) f)
