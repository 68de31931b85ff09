-- The legs of a route: each is one walk, step by step nearer to its target; choice bytes name one leg and the byte after it; and the two
-- legs of a named route are legs of the play.
-- Assumes nothing.
use Prim.Native.Nat.{ℕ, suc, ◌+◌, ◌%◌, ◌≤◌, ◌<◌}
use mathlib.Core.Path.{◌≡◌, refl, sym, ap, ◌∙◌, subst}
use mathlib.Core.List.{List, [], ◌∷◌}
use native.Mathlib.Nat.{mod-lt}
use native.Mathlib.Omega.{arith}
use lib.ListN.{length, get_or}
use Rattle.lfa.specs.Network.{Arc, Target}
use Rattle.lfa.specs.Walk.{Step}
use Rattle.lfa.specs.Route.{Move, deliver, go, options, choice_at, option_taken, Takes, FirstLeg, arrived, onward as first_on, SecondLeg, delivered as second-end, onward as second-on, HasMove}
use Rattle.lfa.proofs.Laws.List.{get_d_in}
use Rattle.lfa.proofs.Laws.Walk.{measure, step_lowers}
use Rattle.lfa.specs.Sound.{Descends, Within}
use Rattle.lfa.proofs.Laws.Options.{options_give, move_next, never_both}
use Rattle.options.specs.declared.Move as declared
use Rattle.options.specs.declared.Move.TheVariants.{Deliver, Go}
use Rattle.route.specs.Leg.{Leg, stopped, delivered, onward}

-- ---- a step that a choice byte takes

module _ (n : ℕ) (hops : List Arc) (d : ℕ → ℕ → ℕ) (target : Target) where
  -- it is a step of a walk: an option that goes on is one of those listed
  taken_step : (x byte z : ℕ) → option_taken (options n hops d target x) byte ≡ go z → (l : ℕ) × Step hops d target x z l
  unfolding option_taken
  taken_step x byte z e = by (options n hops d target x) refl e
    where
      by : (ms : List Move) → options n hops d target x ≡ ms → get_or ms (byte % length ms) deliver ≡ go z → (l : ℕ) × Step hops d target x z l
      by [] s e = never_both e
      by (m ∷ ms) s e =
          let i = byte % length (m ∷ ms) in
          let k : i < length (m ∷ ms) = mod-lt byte (let p : 0 < length (m ∷ ms) = omega arith in p) in
          subst (HasMove hops d target x) e (options_give n hops d target x (get_or (m ∷ ms) i deliver) (rw s (get_d_in (m ∷ ms) i deliver k)))

  module _ {height : ℕ → ℕ} (within : Within hops n) (descends : Descends hops height) where
    -- it leads to a router, nearer to the target
    pub step_nearer : {z : ℕ} (x byte : ℕ) → option_taken (options n hops d target x) byte ≡ go z → (z < n) × (measure height d target z < measure height d target x)
    step_nearer {z} x byte e =
        let s = (taken_step x byte z e).1 in
        (within.to s.joined, step_lowers descends s)

-- a move that goes to no router delivers
pub not_going : (m : declared.Move) → ((z : ℕ) → m ≡ Go z → ⊥) → m ≡ Deliver
not_going Deliver f = refl
not_going (Go z) f = absurd (f z refl)

-- ---- one leg

module _ {moves : ℕ → List Move} {choices : List ℕ} {stop : ℕ} where
  -- What the next option makes of a leg: at its stop it is over and uses no byte, where the byte delivers it is over and has used that
  -- byte, and a router that the byte leads to is the next one of the leg.
  pub leg_stops : {i x j : ℕ} {rs : List ℕ} → x ≡ stop → Leg moves choices stop i x rs j → (rs ≡ []) × (j ≡ i)
  leg_stops e (stopped s) = (refl, refl)
  leg_stops e (delivered h t) = absurd (h e)
  leg_stops e (onward h t r) = absurd (h e)

  pub leg_delivers : {i x j : ℕ} {rs : List ℕ} → (x ≡ stop → ⊥) → Takes moves choices i x deliver → Leg moves choices stop i x rs j → (rs ≡ []) × (j ≡ suc i)
  leg_delivers h e (stopped s) = absurd (h s)
  leg_delivers h e (delivered k t) = (refl, refl)
  leg_delivers h e (onward k t r) = never_both (sym e ∙ t)

  pub leg_goes : {i x z j : ℕ} {rs : List ℕ} → (x ≡ stop → ⊥) → Takes moves choices i x (go z) → Leg moves choices stop i x rs j → (more : List ℕ) × (rs ≡ z ∷ more) × Leg moves choices stop (suc i) z more j
  leg_goes h e (stopped s) = absurd (h s)
  leg_goes h e (delivered k t) = never_both (sym t ∙ e)
  leg_goes {i} {z = z} h e (onward {z = w} {rs = rs} k t r) =
      let p : w ≡ z = move_next (sym t ∙ e) in
      (rs, ap (λ (v : ℕ). v ∷ rs) p, rw p at r)

  -- choice bytes name one leg, and the byte after it
  pub leg_once : {i x j k : ℕ} {rs ss : List ℕ} → Leg moves choices stop i x rs j → Leg moves choices stop i x ss k → (rs ≡ ss) × (j ≡ k)
  leg_once (stopped e) s = let q = leg_stops e s in (sym q.0, sym q.1)
  leg_once (delivered h t) s = let q = leg_delivers h t s in (sym q.0, sym q.1)
  leg_once (onward {z = z} h t r) s =
      let q = leg_goes h t s in
      let rest = leg_once r q.2 in
      (ap (λ (l : List ℕ). z ∷ l) rest.0 ∙ sym q.1, rest.1)

  -- a leg uses no byte before its first, and one at each router but its stop
  leg_from : {i x j : ℕ} {rs : List ℕ} → Leg moves choices stop i x rs j → i ≤ j
  leg_from (stopped e) = omega arith
  leg_from (delivered h t) = omega arith
  leg_from (onward h t r) = omega (arith, leg_from r)

  pub leg_uses : {i x j : ℕ} {rs : List ℕ} → (x ≡ stop → ⊥) → Leg moves choices stop i x rs j → i < j
  leg_uses h (stopped e) = absurd (h e)
  leg_uses h (delivered k t) = omega arith
  leg_uses h (onward k t r) = leg_from r

-- a first leg stops at y
pub first_leg : {moves : ℕ → List Move} {choices : List ℕ} {y i x j : ℕ} {rs : List ℕ} → FirstLeg moves choices y i x rs j → Leg moves choices y i x rs j
first_leg arrived = stopped refl
first_leg (first_on h t r) = onward h t (first_leg r)

-- A second leg stops nowhere, since 64 is no router. It uses a byte for each router that it steps to, and one to deliver.
module _ (n : ℕ) (few : n ≤ 64) (hops : List Arc) (within : Within hops n) (d : ℕ → ℕ → ℕ) (target : Target) (choices : List ℕ) where
  no_stop : {x : ℕ} → x < n → x ≡ 64 → ⊥
  no_stop h e = omega arith

  pub second_leg : {i x : ℕ} {rs : List ℕ} → x < n → SecondLeg (options n hops d target) choices i x rs →
      (j : ℕ) × (j ≡ i + length rs + 1) × Leg (options n hops d target) choices 64 i x rs j
  second_leg h (second-end {i} t) = (suc i, omega arith, delivered (no_stop h) t)
  second_leg h (second-on {i} {x} t r) =
      let rest = second_leg (within.to (taken_step n hops d target x (choice_at choices i) _ t).1.joined) r in
      (rest.0, omega (arith, rest.1), onward (no_stop h) t rest.2)
