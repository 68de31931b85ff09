-- The routers that avoid the protected link on the way to a target, and those that do not visit E, found by following the steps of walks
-- backwards from the link and from E.
-- Assumes nothing.
use Rattle.std.specs.Prelude.{ℕ, Bool, true, false, not, ◌&&◌, ◌||◌, List, eqb, ltb, leb, get_or}
use Rattle.lfa.specs.Distance.{unreachable}
use Rattle.lfa.specs.Space.{Protected, has, set_of}
use Rattle.steps.specs.declared.Onward.{Onward}
use Rattle.steps.specs.Steps.{is_tight, nexts_by, led_in}

-- the hop over the link from S to E is a step; not so where an end of the link is no number below 64
unfoldable pub steps_over : Protected → (ends : ℕ) → (target : List ℕ) → Bool
steps_over q ends target = ltb q.near 64 && (ltb q.far 64 && is_tight ends (λ y. get_or target y 0) q.near q.far q.out)

-- the ends of the link from which the hop over it is a step
unfoldable pub over_link : Protected → (ends : ℕ) → (ℕ → ℕ) → ℕ
over_link q ends target =
    set_of 64 (λ x. (is_tight ends target q.near q.far q.out && eqb q.near x) || (is_tight ends target q.far q.near q.back && eqb q.far x))

-- router x reaches the target and is not in the set
unfoldable pub reaches_without : (ℕ → ℕ) → (set x : ℕ) → Bool
reaches_without target set x = ltb (target x) unreachable && not (has set x)

-- at most 64 routers, the ends of the link among numbers below 64
unfoldable pub numbers_fit : (n : ℕ) → Protected → Bool
numbers_fit n q = leb n 64 && (ltb q.near 64 && ltb q.far 64)

-- the routers below n that reach the target and from which steps do not lead to a router of `start`
unfoldable pub kept_from : (n : ℕ) → (nexts : List ℕ) → (ℕ → ℕ) → (start : ℕ) → ℕ
kept_from n nexts target start = set_of n (reaches_without target (led_in nexts start n))

-- For any numbers: of the routers below n that reach the target, those from which steps do not lead over the link, and those from which
-- they do not lead to E.
unfoldable pub onward_by_steps : (n links : ℕ) → (from to out back : List ℕ) → Protected → (ends : ℕ) → (target : List ℕ) → Onward
onward_by_steps n links from to out back q ends target =
    let h : ℕ → ℕ = λ y. get_or target y 0 in
    let nexts : List ℕ = nexts_by links from to out back ends target in
    elim (numbers_fit n q) [
      | true ↦ record { avoiding = kept_from n nexts h (over_link q ends h); missing = kept_from n nexts h (set_of 64 (eqb q.far)) }
      | false ↦ record { avoiding = 0; missing = 0 }
    ]
