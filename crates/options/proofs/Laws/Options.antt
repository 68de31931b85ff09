-- The move that a choice byte takes is the option of document 01, where the columns hold a network and the distances to the target.
-- Assumes nothing.
use Rattle.std.specs.Prelude.{ℕ, zero, suc, ◌+◌, ◌-◌, ◌≤◌, ◌<◌, ◌≡◌, Bool, false, ◌&&◌, eqb, get_or}
use Rattle.std.proofs.Math.Path.{refl, ap, ap₂}
use Rattle.std.proofs.Common.{◌∙◌}
use Rattle.std.proofs.Math.Bool.{true}
use mathlib.Core.List.{List, [], ◌∷◌, ◌++◌, append-nil, Memᴰ}
use native.Mathlib.Omega.{arith}
use Rattle.std.proofs.Math.Dec.{ltb}
use borrow.Author.Tests.{lt-ltb, eqb-true}
use Rattle.lfa.specs.Lists.{count_up, below, keep_if, select, any_of}
use Rattle.lfa.specs.Network.{Arc, arc, Target, is_attached}
use Rattle.lfa.specs.Distance.{unreachable, towards}
use Rattle.lfa.specs.Space.{has}
use Rattle.lfa.specs.Walk.{is_step}
use Rattle.lfa.specs.Route.{Move, delivers, is_step_to, next_routers, moves_of, options, option_taken}
use Rattle.lfa.proofs.Laws.Test.{and_right}
use Rattle.lfa.proofs.Laws.List.{any_gives, below_mem, from_counted}
use Rattle.lfa.specs.Sound.{Within}
use Rattle.metric.specs.Column.{column}
use Rattle.metric.proofs.Laws.List.{select_append, select_same}
use Rattle.metric.proofs.Laws.Column.{column_at}
use Rattle.steps.specs.Laws.Next.{RightNexts, RightEnds}
use Rattle.options.specs.Options.{delivers_by, members_of, move_by}

-- ---- the options

-- the numbers counted, in two parts
count_split : (i m k : ℕ) → count_up i (m + k) ≡ count_up i m ++ count_up (i + m) k
unfolding count_up
count_split i zero k = ap₂ count_up (let e : i ≡ i + 0 = omega arith in e) (let e : 0 + k ≡ k = omega arith in e)
count_split i (suc m) k = ap (count_up i) (let e : suc m + k ≡ suc (m + k) = omega arith in e) ∙ ap (λ (l : List ℕ). i ∷ l) (count_split (suc i) m k ∙ ap (λ (j : ℕ). count_up (suc i) m ++ count_up j k) (omega arith))

-- a test that no element passes
select_none : (p : ℕ → Bool) (l : List ℕ) → ((z : ℕ) → Memᴰ z l → p z ≡ false) → select p l ≡ []
unfolding select
select_none p [] h = refl
select_none p (z ∷ l) h = ap (λ (b : Bool). keep_if b z (select p l)) (h z (Memᴰ.head refl)) ∙ select_none p l (λ w m. h w (Memᴰ.tail m))

-- The set of the next routers is looked through from 0 to 63: no step leads to a number that is no router.
module _ (n : ℕ) (few : n ≤ 64) (hops : List Arc) (within : Within hops n) (d : ℕ → ℕ → ℕ) (to : Target) (nexts : List ℕ) (right : RightNexts n hops d to nexts) (x : ℕ) (x-in : x < n) where
  abbrev leads : ℕ → Bool
  leads z = any_of (is_step_to d to x z) hops

  none_beyond : (z : ℕ) → n ≤ z → leads z ≡ false
  unfolding is_step_to
  none_beyond z k = by (leads z) refl
    where
      no : leads z ≡ true → ⊥
      no t = let r = any_gives (is_step_to d to x z) hops t in at_arc r.0 r.1 r.2
        where
          at_arc : (a : Arc) → Memᴰ a hops → is_step_to d to x z a ≡ true → ⊥
          at_arc (arc u v c l) m t = let e : v ≡ z = eqb-true v z (and_right (is_step d to x (arc u v c l)) (eqb v z) t) in omega (arith, within.to m)

      by : (b : Bool) → leads z ≡ b → leads z ≡ false
      by true e = absurd (no e)
      by false e = e

  -- the set has the next routers, in their order
  next_same : members_of (get_or nexts x 0) ≡ next_routers n hops d to x
  unfolding members_of next_routers below
  next_same =
      select_same (has (get_or nexts x 0)) leads (count_up 0 64) (λ z m. right.next x z x-in (below_mem 64 z m))
      ∙ ap (λ (k : ℕ). select leads (count_up 0 k)) (let e : 64 ≡ n + (64 - n) = omega arith in e) ∙ ap (select leads) (count_split 0 n (64 - n))
      ∙ select_append leads (count_up 0 n) (count_up (0 + n) (64 - n))
      ∙ ap (λ (l : List ℕ). select leads (count_up 0 n) ++ l) (select_none leads (count_up (0 + n) (64 - n)) (λ z m. none_beyond z (omega (arith, from_counted (0 + n) (64 - n) z m)))) ∙ append-nil (select leads (count_up 0 n))

  -- so that the moves are the options, at the distance from the target
  options_same : (ends : ℕ) {own : ℕ} → has ends x ≡ is_attached to x → own ≡ towards d to x → moves_of (delivers_by ends own x) (members_of (get_or nexts x 0)) ≡ options n hops d to x
  unfolding options delivers delivers_by
  options_same ends is e = ap₂ moves_of (ap₂ (λ (k : ℕ) (b : Bool). ltb k unreachable && b) e is) next_same

-- ---- the move

-- `target` holds the distances to the target, `ends` the routers attached to it, and `nexts` the next routers.
pub move_known : {n : ℕ} → n ≤ 64 → (hops : List Arc) → Within hops n → (d : ℕ → ℕ → ℕ) (to : Target) (target : List ℕ) → target ≡ column n (towards d to) →
    (nexts : List ℕ) → RightNexts n hops d to nexts → (ends : ℕ) → RightEnds n to ends → (x byte : ℕ) → x < n → move_by (get_or nexts x 0) ends target x byte ≡ option_taken (options n hops d to x) byte
unfolding move_by
move_known {n} few hops within d to target held nexts right ends right-ends x byte x-in =
    let own : get_or target x 0 ≡ towards d to x = rw held (column_at n (towards d to) x x-in) in
    rw (lt-ltb x 64 (omega arith), move_by)
    (ap (λ (ms : List Move). option_taken ms byte) (options_same n few hops within d to nexts right x x-in ends (right-ends.at x x-in) own))
