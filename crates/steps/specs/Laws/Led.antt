-- Where steps lead: the rounds that follow the next routers backwards find the routers from which some walk takes a wanted hop.
-- Assumes nothing.
use Prim.Native.Nat.{ℕ, zero, suc, ◌^◌, ◌≤◌, ◌<◌}
use Rattle.std.specs.Prelude.{◌≡◌, refl, ◌⊎◌, Bool, ◌&&◌, ◌||◌, get_or}
use Rattle.std.proofs.Math.Path.{sym, ap}
use Rattle.std.proofs.Common.{◌∙◌, arith}
use Rattle.std.proofs.Math.Logic.{inl, inr}
use Rattle.std.proofs.Math.Bool.{true, false, not}
use Rattle.std.proofs.lemmas.Bool.{false≢true}
use mathlib.Core.List.{List, Memᴰ}
use Rattle.std.proofs.Math.Dec.{eqb}
use Rattle.std.specs.Int.Bits.{bit_and, bit_or}
use Rattle.std.proofs.lemmas.Nat.{and_le_l}
use borrow.Author.Tests.{eqb-true, eqb-false, eq-eqb, ne_eqb, not-true}
use Rattle.lfa.specs.Lists.{below, any_of, member_of}
use Rattle.lfa.specs.Network.{Arc, arc, Target}
use Rattle.lfa.specs.Walk.{is_step, leads, takers}
use Rattle.lfa.specs.Space.{has}
use Rattle.lfa.specs.Route.{is_step_to}
use Rattle.lfa.proofs.Laws.Test.{and_left, and_right, and_make, or_cases, or_left, or_right, same_test, decide}
use Rattle.lfa.proofs.Laws.List.{any_gives, any_make, mem_below, below_mem, select_gives, select_make, member_gives, member_make}
use Rattle.lfa.proofs.Laws.Set.{has_set_of, has_and}
use Rattle.lfa.specs.Sound.{Within}
use Rattle.metric.proofs.Laws.Set.{has_or, has_none, no_member}
use Rattle.steps.specs.Steps.{led_to, led_in}
use Rattle.steps.specs.Laws.Next.{RightNexts}

-- two sets meet exactly when they have a common member
meet_gives : (a b : ℕ) → a < 2 ^ 64 → (bit_and a b ≡ 0 → ⊥) → (z : ℕ) × (z < 64) × (has a z ≡ true) × (has b z ≡ true)
meet_gives a b ha h = by (decide (any_of (has (bit_and a b)) (below 64)))
  where
    none : any_of (has (bit_and a b)) (below 64) ≡ false → (z : ℕ) → z < 64 → has (bit_and a b) z ≡ false
    none e z i = not_any (has (bit_and a b) z) refl
      where
        not_any : (t : Bool) → has (bit_and a b) z ≡ t → has (bit_and a b) z ≡ false
        not_any true q = absurd (false≢true (sym e ∙ any_make (has (bit_and a b)) (mem_below 64 z i) q))
        not_any false q = q

    by : (any_of (has (bit_and a b)) (below 64) ≡ true) ⊎ (any_of (has (bit_and a b)) (below 64) ≡ false) → (z : ℕ) × (z < 64) × (has a z ≡ true) × (has b z ≡ true)
    by (inl e) =
        let r = any_gives (has (bit_and a b)) (below 64) e in
        let both = sym (has_and a b r.0) ∙ r.2 in
        (r.0, below_mem 64 r.0 r.1, and_left (has a r.0) (has b r.0) both, and_right (has a r.0) (has b r.0) both)
    by (inr e) = absurd (h (no_member (bit_and a b) (omega (arith, and_le_l a b)) (none e)))

meet_make : (a b z : ℕ) → has a z ≡ true → has b z ≡ true → bit_and a b ≡ 0 → ⊥
meet_make a b z ea eb e = false≢true (sym (has_none z) ∙ ap (λ (s : ℕ). has s z) (sym e) ∙ has_and a b z ∙ and_make (has a z) (has b z) ea eb)

-- one round over the sets
module _ (n : ℕ) (few : n ≤ 64) (hops : List Arc) (d : ℕ → ℕ → ℕ) (to : Target) (nexts : List ℕ) (right : RightNexts n hops d to nexts) (start : ℕ) where
  -- the routers of a round: those of the start, and those that have a next router among what was found before
  pub round_gives : (set x : ℕ) → x < n → has (bit_or start (led_to nexts set)) x ≡ true → (has start x ≡ true) ⊎ ((z : ℕ) × (z < 64) × (has (get_or nexts x 0) z ≡ true) × (has set z ≡ true))
  unfolding led_to
  round_gives set x i e = by (or_cases (has start x) (has (led_to nexts set) x) (sym (has_or start (led_to nexts set) x) ∙ e))
    where
      by : (has start x ≡ true) ⊎ (has (led_to nexts set) x ≡ true) → (has start x ≡ true) ⊎ ((z : ℕ) × (z < 64) × (has (get_or nexts x 0) z ≡ true) × (has set z ≡ true))
      by (inl t) = inl t
      by (inr t) =
          let some = sym (has_set_of 64 (λ x. not (eqb (bit_and (get_or nexts x 0) set) 0)) x (omega arith)) ∙ t in
          inr (meet_gives (get_or nexts x 0) set (right.is_set x i) (eqb-false _ _ (not-true _ some)))

  pub round_make : (set x : ℕ) → x < n → (has start x ≡ true) ⊎ ((z : ℕ) × (has (get_or nexts x 0) z ≡ true) × (has set z ≡ true)) → has (bit_or start (led_to nexts set)) x ≡ true
  unfolding led_to
  round_make set x i (inl t) = has_or start (led_to nexts set) x ∙ or_left (has start x) _ t
  round_make set x i (inr (z, e, q)) =
      let some : eqb (bit_and (get_or nexts x 0) set) 0 ≡ false = ne_eqb _ _ (meet_make (get_or nexts x 0) set z e q) in
      has_or start (led_to nexts set) x ∙ or_right (has start x) _ (has_set_of 64 (λ x. not (eqb (bit_and (get_or nexts x 0) set) 0)) x (omega arith) ∙ ap not some)

-- Rounds over the sets find what the rounds of the definition find: a router has a next router among those that were found before exactly
-- when one of its steps leads there. `start` has the routers whose own step is wanted.
module _ (n : ℕ) (few : n ≤ 64) (hops : List Arc) (within : Within hops n) (d : ℕ → ℕ → ℕ) (to : Target) (wanted : Arc → Bool) (nexts : List ℕ) (right : RightNexts n hops d to nexts)
    (start : ℕ) (start_is : (x : ℕ) → x < n → has start x ≡ any_of (λ a. is_step d to x a && wanted a) hops) where
  abbrev found : ℕ → List ℕ
  found = takers n hops d to wanted

  -- a step that is wanted, or that leads to what was found
  leading : (k x : ℕ) → x < n → (a : Arc) → Memᴰ a hops → leads d to wanted (found k) x a ≡ true → member_of x (takers n hops d to wanted (suc k)) ≡ true
  unfolding takers
  leading k x i a m e = member_make (select_make (λ x. any_of (leads d to wanted (found k) x) hops) (mem_below n x i) (any_make (leads d to wanted (found k) x) m e))

  from_start : (k x : ℕ) → x < n → has start x ≡ true → member_of x (takers n hops d to wanted (suc k)) ≡ true
  unfolding leads
  from_start k x i e = let r = any_gives (λ a. is_step d to x a && wanted a) hops (sym (start_is x i) ∙ e) in by r.0 r.1 r.2
    where
      by : (a : Arc) → Memᴰ a hops → (is_step d to x a && wanted a) ≡ true → member_of x (takers n hops d to wanted (suc k)) ≡ true
      by (arc u v c l) m t =
          let s = and_left (is_step d to x (arc u v c l)) (wanted (arc u v c l)) t in
          leading k x i (arc u v c l) m (and_make _ _ s (or_left (wanted (arc u v c l)) _ (and_right (is_step d to x (arc u v c l)) (wanted (arc u v c l)) t)))

  from_next : (k x z : ℕ) → x < n → has (get_or nexts x 0) z ≡ true → z < 64 → ((z : ℕ) → z < n → has (led_in nexts start k) z ≡ member_of z (found k)) → has (led_in nexts start k) z ≡ true →
      member_of x (takers n hops d to wanted (suc k)) ≡ true
  unfolding leads is_step_to
  from_next k x z i e j before q = let r = any_gives (is_step_to d to x z) hops (sym (right.next x z i j) ∙ e) in by r.0 r.1 r.2
    where
      by : (a : Arc) → Memᴰ a hops → is_step_to d to x z a ≡ true → member_of x (takers n hops d to wanted (suc k)) ≡ true
      by (arc u v c l) m t =
          let s = and_left (is_step d to x (arc u v c l)) (eqb v z) t in
          let v-is : v ≡ z = eqb-true v z (and_right (is_step d to x (arc u v c l)) (eqb v z) t) in
          let known : member_of v (found k) ≡ true = rw (v-is) (sym (before z (rw (← v-is) (within.to m))) ∙ q) in
          leading k x i (arc u v c l) m (and_make _ _ s (or_right (wanted (arc u v c l)) _ known))

  -- a step that leads on is wanted, or leads to a next router that was found
  back_from : (k x : ℕ) → x < n → ((z : ℕ) → z < n → has (led_in nexts start k) z ≡ member_of z (found k)) → member_of x (takers n hops d to wanted (suc k)) ≡ true →
      (has start x ≡ true) ⊎ ((z : ℕ) × (has (get_or nexts x 0) z ≡ true) × (has (led_in nexts start k) z ≡ true))
  unfolding takers leads is_step_to
  back_from k x i before e =
      let s = select_gives (λ x. any_of (leads d to wanted (found k) x) hops) (below n) (member_gives x _ e) in
      let r = any_gives (leads d to wanted (found k) x) hops s.1 in
      by r.0 r.1 r.2
    where
      cases : (u v c l : ℕ) → Memᴰ (arc u v c l) hops → is_step d to x (arc u v c l) ≡ true → (wanted (arc u v c l) ≡ true) ⊎ (member_of v (found k) ≡ true) →
          (has start x ≡ true) ⊎ ((z : ℕ) × (has (get_or nexts x 0) z ≡ true) × (has (led_in nexts start k) z ≡ true))
      cases u v c l m s (inl w) = inl (start_is x i ∙ any_make (λ a. is_step d to x a && wanted a) m (and_make _ _ s w))
      cases u v c l m s (inr w) =
          inr (v, right.next x v i (omega (arith, within.to m)) ∙ any_make (is_step_to d to x v) m (and_make _ _ s (eq-eqb v v refl)), before v (within.to m) ∙ w)

      by : (a : Arc) → Memᴰ a hops → leads d to wanted (found k) x a ≡ true → (has start x ≡ true) ⊎ ((z : ℕ) × (has (get_or nexts x 0) z ≡ true) × (has (led_in nexts start k) z ≡ true))
      by (arc u v c l) m t =
          cases u v c l m (and_left (is_step d to x (arc u v c l)) (wanted (arc u v c l) || member_of v (found k)) t)
          (or_cases (wanted (arc u v c l)) (member_of v (found k)) (and_right (is_step d to x (arc u v c l)) (wanted (arc u v c l) || member_of v (found k)) t))

  pub led_takers : (k x : ℕ) → x < n → has (led_in nexts start k) x ≡ member_of x (takers n hops d to wanted k)
  unfolding led_in takers member_of any_of
  led_takers zero x i = has_none x
  led_takers (suc k) x i = same_test _ _ (λ e. there (led_takers k) (round_gives n few hops d to nexts right start (led_in nexts start k) x i e)) (λ e. round_make n few hops d to nexts right start (led_in nexts start k) x i (back_from k x i (led_takers k) e))
    where
      there : ((z : ℕ) → z < n → has (led_in nexts start k) z ≡ member_of z (found k)) → (has start x ≡ true) ⊎ ((z : ℕ) × (z < 64) × (has (get_or nexts x 0) z ≡ true) × (has (led_in nexts start k) z ≡ true)) →
          member_of x (takers n hops d to wanted (suc k)) ≡ true
      there before (inl t) = from_start k x i t
      there before (inr (z, j, e, q)) = from_next k x z i e j before q
