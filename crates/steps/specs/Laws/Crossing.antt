-- The routers that avoid the link, and those that do not visit E, found by following steps: return by return for any numbers, and what they
-- are where the columns hold a network and the distances to a target.
-- Assumes nothing.
use Rattle.std.specs.Prelude.{ℕ, ◌<◌, ◌≡◌, refl, ◌⊎◌, Bool, false, ◌&&◌, ◌||◌, get_or}
use Rattle.std.proofs.Math.Path.{sym, ap, ap₂}
use Rattle.std.proofs.Common.{◌∙◌, inl, inr, arith}
use Rattle.std.proofs.Math.Bool.{true, not}
use mathlib.Core.List.{List, Memᴰ}
use Rattle.std.proofs.Math.Dec.{eqb, ltb}
use borrow.Author.Tests.{lt-ltb, le-leb, eqb-true, eq-eqb}
use Rattle.lfa.specs.Lists.{any_of, member_of}
use Rattle.lfa.specs.Network.{Arc, arc, Target}
use Rattle.lfa.specs.Distance.{unreachable, towards}
use Rattle.lfa.specs.Walk.{is_step, takers, over, avoids, visits}
use Rattle.lfa.specs.Space.{Protected, has, set_of}
use Rattle.lfa.proofs.Laws.Test.{and_left, and_right, and_make, or_cases, or_left, or_right, same_test}
use Rattle.lfa.proofs.Laws.List.{any_gives, any_make}
use Rattle.lfa.proofs.Laws.Set.{set_of_same, has_set_of}
use Rattle.lfa.proofs.Laws.Arrive.{Falls}
use Rattle.lfa.proofs.Laws.Avoid.{step_leaves}
use Rattle.lfa.specs.Sound.{Named}
use Rattle.lfa.proofs.Laws.Visit.{misses}
use Rattle.metric.specs.Fit.{ColumnsWithin}
use Rattle.metric.specs.Columns.{arcs_in}
use Rattle.metric.specs.Column.{column}
use Rattle.metric.proofs.Laws.Columns.{columns_within}
use Rattle.steps.specs.declared.Onward.{Onward}
use Rattle.steps.specs.Steps.{is_tight, nexts_by, led_in}
use Rattle.steps.specs.Crossing.{steps_over, over_link, reaches_without, kept_from, numbers_fit, onward_by_steps}
use Rattle.steps.specs.Laws.Next.{RightNexts, RightEnds, at_router, tight_step}
use Rattle.steps.specs.Laws.Led.{led_takers}
use Rattle.steps.specs.Laws.Visiting.{led_visits}
use Rattle.steps.specs.Laws.Calls.{nexts_known}

-- ---- any numbers

module _ (n links : ℕ) (from to out back : List ℕ) (q : Protected) (ends : ℕ) (target : List ℕ) where
  pub none_onward : numbers_fit n q ≡ false → record { avoiding = 0; missing = 0 } ≡ onward_by_steps n links from to out back q ends target
  unfolding onward_by_steps
  none_onward e = rw (e, onward_by_steps)

  abbrev kept : (start : ℕ) → ℕ
  kept start = kept_from n (nexts_by links from to out back ends target) (λ y. get_or target y 0) start

  pub some_onward : numbers_fit n q ≡ true → onward_by_steps n links from to out back q ends target ≡ record { avoiding = kept (over_link q ends (λ y. get_or target y 0)); missing = kept (set_of 64 (eqb q.far)) }
  unfolding onward_by_steps
  some_onward e = rw (e, onward_by_steps)

  pub found_onward : {nexts : List ℕ} {link alone crossing visiting avoiding missing : ℕ} → numbers_fit n q ≡ true → nexts ≡ nexts_by links from to out back ends target →
      link ≡ over_link q ends (λ y. get_or target y 0) → crossing ≡ led_in nexts link n → alone ≡ set_of 64 (eqb q.far) → visiting ≡ led_in nexts alone n →
      avoiding ≡ set_of n (reaches_without (λ y. get_or target y 0) crossing) → missing ≡ set_of n (reaches_without (λ y. get_or target y 0) visiting) →
      record { avoiding = avoiding; missing = missing } ≡ onward_by_steps n links from to out back q ends target
  unfolding kept_from
  found_onward fit nexts-are link_is crossing_is alone-is visiting-is avoiding-is missing-is =
      rw (avoiding-is, missing-is, crossing_is, visiting-is, link_is, alone-is, nexts-are) (sym (some_onward fit))

-- ---- by walks

-- The steps lead over the link from exactly those routers from which some walk crosses it.
module _ {n links : ℕ} {from to : List ℕ} (w : ColumnsWithin n links from to) (out back : List ℕ) (d : ℕ → ℕ → ℕ) (at : Target) (ends : ℕ) (right-ends : RightEnds n at ends)
    (target : List ℕ) (held : target ≡ column n (towards d at)) (q : Protected) (named : Named (arcs_in from to out back links) q) where
  abbrev hops : List Arc
  hops = arcs_in from to out back links

  abbrev h : ℕ → ℕ
  h y = get_or target y 0

  near_in : q.near < n
  near_in = (columns_within from to out back links n w).from named.outward

  far_in : q.far < n
  far_in = (columns_within from to out back links n w).to named.outward

  tight_at : (u v c : ℕ) → u < n → v < n → is_tight ends h u v c ≡ is_step d at u (arc u v c q.number)
  tight_at u v c = tight_step n d at ends right-ends target held u v c q.number

  -- whether the hop from S over the link is a step there
  pub over_known : steps_over q ends target ≡ is_step d at q.near (arc q.near q.far q.out q.number)
  unfolding steps_over
  over_known =
      rw (lt-ltb q.near 64 (omega (arith, near_in, w.few_routers)), lt-ltb q.far 64 (omega (arith, far_in, w.few_routers)))
      (tight_at q.near q.far q.out near_in far_in)

  -- one end of the link: its hop over the link is a step there
  end_gives : (u v c x : ℕ) → u < n → v < n → Memᴰ (arc u v c q.number) hops → (is_tight ends h u v c && eqb u x) ≡ true → any_of (λ a. is_step d at x a && over q.number a) hops ≡ true
  unfolding over
  end_gives u v c x hu hv m e =
      let x-is : u ≡ x = eqb-true u x (and_right (is_tight ends h u v c) (eqb u x) e) in
      let t = ap (λ (y : ℕ). is_step d at y (arc u v c q.number)) (sym x-is) ∙ sym (tight_at u v c hu hv) ∙ and_left (is_tight ends h u v c) (eqb u x) e in
      any_make (λ a. is_step d at x a && over q.number a) m (and_make _ _ t (eq-eqb q.number q.number refl))

  end_make : (u v c x : ℕ) → u < n → v < n → is_step d at x (arc u v c q.number) ≡ true → (is_tight ends h u v c && eqb u x) ≡ true
  end_make u v c x hu hv e =
      let x-is : u ≡ x = step_leaves d at x u v c q.number e in
      and_make _ _ (tight_at u v c hu hv ∙ ap (λ (y : ℕ). is_step d at y (arc u v c q.number)) x-is ∙ e) (eq-eqb u x x-is)

  start_is : (x : ℕ) → x < n → has (over_link q ends h) x ≡ any_of (λ a. is_step d at x a && over q.number a) hops
  unfolding over_link over
  start_is x i = has_set_of 64 _ x (omega (arith, w.few_routers)) ∙ same_test _ _ (λ e. there (or_cases _ _ e)) (λ e. let r = any_gives (λ a. is_step d at x a && over q.number a) hops e in home r.0 r.1 r.2)
    where
      there : ((is_tight ends h q.near q.far q.out && eqb q.near x) ≡ true) ⊎ ((is_tight ends h q.far q.near q.back && eqb q.far x) ≡ true) →
          any_of (λ a. is_step d at x a && over q.number a) hops ≡ true
      there (inl e) = end_gives q.near q.far q.out x near_in far_in named.outward e
      there (inr e) = end_gives q.far q.near q.back x far_in near_in named.backward e

      at_end : (u v c : ℕ) → is_step d at x (arc u v c q.number) ≡ true → ((u ≡ q.near) × (v ≡ q.far) × (c ≡ q.out)) ⊎ ((u ≡ q.far) × (v ≡ q.near) × (c ≡ q.back)) →
          ((is_tight ends h q.near q.far q.out && eqb q.near x) || (is_tight ends h q.far q.near q.back && eqb q.far x)) ≡ true
      at_end u v c s (inl k) = or_left _ _ (end_make q.near q.far q.out x near_in far_in (rw (k.0, k.1, k.2) at s))
      at_end u v c s (inr k) = or_right (is_tight ends h q.near q.far q.out && eqb q.near x) _ (end_make q.far q.near q.back x far_in near_in (rw (k.0, k.1, k.2) at s))

      home : (a : Arc) → Memᴰ a hops → (is_step d at x a && over q.number a) ≡ true →
          ((is_tight ends h q.near q.far q.out && eqb q.near x) || (is_tight ends h q.far q.near q.back && eqb q.far x)) ≡ true
      home (arc u v c l) m t =
          let l-is : l ≡ q.number = eqb-true l q.number (and_right (is_step d at x (arc u v c l)) (eqb l q.number) t) in
          let s : is_step d at x (arc u v c q.number) ≡ true = rw (l-is) at (and_left (is_step d at x (arc u v c l)) (eqb l q.number) t) in
          at_end u v c s (named.only (rw (l-is) at m))

  fits : numbers_fit n q ≡ true
  unfolding numbers_fit
  fits = rw (le-leb n 64 w.few_routers, lt-ltb q.near 64 (omega (arith, near_in, w.few_routers)), lt-ltb q.far 64 (omega (arith, far_in, w.few_routers)), numbers_fit)

  right_sets : RightNexts n hops d at (nexts_by links from to out back ends target)
  right_sets = nexts_known w out back d at target _ ends right-ends held refl

  -- the routers that are kept are those that reach the target and fail a test that the rounds decide
  kept_known : (start : ℕ) (p : ℕ → Bool) → ((x : ℕ) → x < n → has (led_in (nexts_by links from to out back ends target) start n) x ≡ p x) →
      kept_from n (nexts_by links from to out back ends target) h start ≡ set_of n (λ x. ltb (towards d at x) unreachable && not (p x))
  unfolding kept_from reaches_without
  kept_known start p led = set_of_same n _ _ (λ x i. ap₂ (λ (t : ℕ) (b : Bool). ltb t unreachable && not b) (at_router n d at ends right-ends target held x i) (led x i))

  -- Where the columns hold a network and the distances to a target, these are the routers that avoid the link as document 01 says it, and
  -- those from which no walk visits E.
  pub avoiding_known : (onward_by_steps n links from to out back q ends target).avoiding ≡ set_of n (avoids n hops d at q.number)
  unfolding avoids
  avoiding_known =
      ap (λ (o : Onward). o.avoiding) (some_onward n links from to out back q ends target fits)
      ∙ kept_known (over_link q ends h) (λ x. member_of x (takers n hops d at (over q.number) n))
      (led_takers n w.few_routers hops (columns_within from to out back links n w) d at (over q.number) _ right_sets (over_link q ends h) start_is n)

  pub missing_known : {m : ℕ → ℕ} → Falls hops d at m → (onward_by_steps n links from to out back q ends target).missing ≡ set_of n (misses n hops d at q.far)
  unfolding misses
  missing_known falls =
      ap (λ (o : Onward). o.missing) (some_onward n links from to out back q ends target fits)
      ∙ kept_known (set_of 64 (eqb q.far)) (visits n hops d at q.far) (led_visits n w.few_routers hops (columns_within from to out back links n w) d at _ right_sets q.far falls)
