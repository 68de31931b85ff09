-- The rounds that follow the next routers backwards from a router find the routers from which some walk visits it.
-- Assumes nothing.
use Prim.Native.Nat.{ℕ, zero, suc, ◌≤◌, ◌<◌}
use Rattle.std.specs.Prelude.{◌≡◌, refl, ◌⊎◌, eqb, get_or}
use Rattle.std.proofs.Common.{sym, ◌∙◌, inl, inr, arith, not-suc-le-zero}
use Rattle.std.proofs.Math.Bool.{true}
use Rattle.std.proofs.lemmas.Bool.{false≢true}
use mathlib.Core.List.{List, Memᴰ}
use borrow.Author.Tests.{eqb-true, eq-eqb}
use Rattle.lfa.specs.Network.{Arc, arc, Target}
use Rattle.lfa.specs.Walk.{Walk, here, hop, Visits, is_step, visits}
use Rattle.lfa.specs.Space.{has, set_of}
use Rattle.lfa.specs.Route.{is_step_to}
use Rattle.lfa.proofs.Laws.Test.{and_left, and_right, and_make, same_test}
use Rattle.lfa.proofs.Laws.List.{any_gives, any_make}
use Rattle.lfa.proofs.Laws.Set.{has_set_of}
use Rattle.lfa.proofs.Laws.Arrive.{Falls, walk_few}
use Rattle.lfa.specs.Sound.{Within}
use Rattle.lfa.proofs.Laws.Avoid.{step_gives, step_make}
use Rattle.lfa.proofs.Laws.Visit.{visits_gives, visits_make}
use Rattle.metric.proofs.Laws.Set.{has_none}
use Rattle.steps.specs.Steps.{led_in}
use Rattle.steps.specs.Laws.Next.{RightNexts}
use Rattle.steps.specs.Laws.Led.{round_gives, round_make}

module _ (n : ℕ) (few : n ≤ 64) (hops : List Arc) (within : Within hops n) (d : ℕ → ℕ → ℕ) (to : Target) (nexts : List ℕ) (right : RightNexts n hops d to nexts) (v : ℕ) where
  -- the routers from which fewer than k steps lead to v
  abbrev led : ℕ → ℕ
  led k = led_in nexts (set_of 64 (eqb v)) k

  at_start : (x : ℕ) → x < n → has (set_of 64 (eqb v)) x ≡ eqb v x
  at_start x i = has_set_of 64 (eqb v) x (omega arith)

  -- a next router is one step on
  step_on : (x z : ℕ) → x < n → z < 64 → has (get_or nexts x 0) z ≡ true → (z < n → Visits hops d to z v) → Visits hops d to x v
  unfolding is_step_to
  step_on x z i j e onward = let r = any_gives (is_step_to d to x z) hops (sym (right.next x z i j) ∙ e) in by r.0 r.1 r.2
    where
      by : (a : Arc) → Memᴰ a hops → is_step_to d to x z a ≡ true → Visits hops d to x v
      by (arc u w c l) m t =
          let s = step_gives d to x m (and_left (is_step d to x (arc u w c l)) (eqb w z) t) in
          let w-is : w ≡ z = eqb-true w z (and_right (is_step d to x (arc u w c l)) (eqb w z) t) in
          let on : Visits hops d to w v = rw w-is (onward (rw (← w-is) (within.to m))) in
          rw (← s.0) (record { count = suc on.count; walk = hop s.1 on.walk })

  led_walks : (k x : ℕ) → x < n → has (led k) x ≡ true → Visits hops d to x v
  unfolding led_in
  led_walks zero x i e = absurd (false≢true (sym (has_none x) ∙ e))
  led_walks (suc k) x i e = by (led_walks k) (round_gives n few hops d to nexts right (set_of 64 (eqb v)) (led k) x i e)
    where
      by : ((z : ℕ) → z < n → has (led k) z ≡ true → Visits hops d to z v) → (has (set_of 64 (eqb v)) x ≡ true) ⊎ ((z : ℕ) × (z < 64) × (has (get_or nexts x 0) z ≡ true) × (has (led k) z ≡ true)) → Visits hops d to x v
      by before (inl t) = let s : v ≡ x = eqb-true v x (sym (at_start x i) ∙ t) in rw (← s) (record { count = 0; walk = here })
      by before (inr (z, j, e, t)) = step_on x z i j e (λ h. before z h t)

  walk_led : {x j : ℕ} (k : ℕ) → x < n → Walk hops d to x v j → j < k → has (led k) x ≡ true
  unfolding led_in is_step_to
  walk_led zero i w h = absurd (not-suc-le-zero h)
  walk_led {x} (suc k) i here h = round_make n few hops d to nexts right (set_of 64 (eqb v)) (led k) x i (inl (at_start x i ∙ eq-eqb x x refl))
  walk_led {x} (suc k) i (hop {z = z} s w) h =
      let z-in : z < n = within.to s.joined in
      let next = right.next x z i (omega arith) ∙ any_make (is_step_to d to x z) s.joined (and_make _ _ (step_make d to s) (eq-eqb z z refl)) in
      round_make n few hops d to nexts right (set_of 64 (eqb v)) (led k) x i (inr (z, next, walk_led k z-in w (omega arith)))

  -- N rounds find every such router, since a walk has fewer than N hops.
  pub led_visits : {m : ℕ → ℕ} → Falls hops d to m → (x : ℕ) → x < n → has (led n) x ≡ visits n hops d to v x
  led_visits {m} falls x i =
      same_test _ _ (λ e. visits_make n hops d to v within falls x i (led_walks n x i e))
      (λ e. let r = visits_gives n hops d to v x e in walk_led n i r.walk (walk_few hops d to n m within falls i r.walk))
