-- The option that a choice byte takes, and the move of the public function, return by return.
-- Assumes nothing.
use Prim.Native.Nat.{ℕ, suc, ◌+◌, ◌-◌, ◌%◌, ◌≤◌, ◌<◌}
use mathlib.Core.Path.{◌≡◌, refl, sym, ap, ◌∙◌}
use mathlib.Core.Bool.{Bool, true, false}
use mathlib.Core.List.{List, [], ◌∷◌, map}
use native.Mathlib.Nat.{mod-lt}
use native.Mathlib.Omega.{arith}
use lib.ListN.{length, get_or, length-map}
use borrow.Author.Tests.{lt-ltb, le-ltb}
use Rattle.lfa.specs.Route.{Move, deliver, go, moves_of, option_taken}
use Rattle.lfa.proofs.Laws.Chunks.{element_mapped}
use Rattle.options.specs.Options.{delivers_by, members_of, move_by}

-- ---- the option taken

module _ (ms : List ℕ) (byte : ℕ) where
  -- there is nothing to take
  pub taken_none : length ms ≡ 0 → deliver ≡ option_taken (moves_of false ms) byte
  unfolding option_taken moves_of
  taken_none e = go' ms e
    where
      go' : (ms : List ℕ) → length ms ≡ 0 → deliver ≡ get_or (map go ms) (byte % length (map go ms)) deliver
      go' [] e = refl
      go' (m ∷ ms) e = absurd (omega arith)

  -- a step, where the router does not deliver
  pub taken_step : {steps z : ℕ} → steps ≡ length ms → (steps ≡ 0 → ⊥) → z ≡ get_or ms (byte % steps) 0 → go z ≡ option_taken (moves_of false ms) byte
  unfolding option_taken moves_of
  taken_step {steps} {z} s h e =
      let k : byte % steps < length ms = omega (arith, mod-lt byte (let p : 0 < steps = omega arith in p)) in
      ap go e ∙ sym (element_mapped go ms (byte % steps) 0 deliver k) ∙ ap (λ (i : ℕ). get_or (map go ms) (byte % i) deliver) (s ∙ sym (length-map ms go))

  -- delivery is option 0, where the router delivers
  pub taken_delivery : {steps : ℕ} → steps ≡ length ms → byte % (steps + 1) ≡ 0 → deliver ≡ option_taken (moves_of true ms) byte
  unfolding option_taken moves_of
  taken_delivery {steps} s e =
      let k : byte % suc (length (map go ms)) ≡ 0 = ap (λ (i : ℕ). byte % i) (let q : suc (length (map go ms)) ≡ steps + 1 = omega (arith, length-map ms go) in q) ∙ e in
      sym (ap (λ (i : ℕ). get_or (deliver ∷ map go ms) i deliver) k)

  pub taken_later : {steps z : ℕ} → steps ≡ length ms → (byte % (steps + 1) ≡ 0 → ⊥) → z ≡ get_or ms (byte % (steps + 1) - 1) 0 → go z ≡ option_taken (moves_of true ms) byte
  unfolding option_taken moves_of
  taken_later {steps} {z} s h e =
      let few : byte % (steps + 1) < steps + 1 = mod-lt byte (let p : 0 < steps + 1 = omega arith in p) in
      let k : byte % suc (length (map go ms)) ≡ suc (byte % (steps + 1) - 1) =
      ap (λ (i : ℕ). byte % i) (let q : suc (length (map go ms)) ≡ steps + 1 = omega (arith, length-map ms go) in q) ∙ omega arith in
      ap go e ∙ sym (element_mapped go ms (byte % (steps + 1) - 1) 0 deliver (omega arith)) ∙ sym (ap (λ (i : ℕ). get_or (deliver ∷ map go ms) i deliver) k)

-- ---- the move

module _ (next ends : ℕ) (target : List ℕ) (x byte : ℕ) where
  pub move_none : 64 ≤ x → deliver ≡ move_by next ends target x byte
  unfolding move_by
  move_none h = rw (le-ltb x 64 h, move_by)

  pub move_taken : {b : Bool} {m : Move} → x < 64 → b ≡ delivers_by ends (get_or target x 0) x → m ≡ option_taken (moves_of b (members_of next)) byte → m ≡ move_by next ends target x byte
  unfolding move_by
  move_taken h eb e = rw (lt-ltb x 64 h, move_by) (e ∙ ap (λ (b : Bool). option_taken (moves_of b (members_of next)) byte) eb)
