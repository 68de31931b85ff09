-- How far the play of a leg has come: what is written and what is ahead make the leg from its start, and the next choice byte is the
-- first of those that what is ahead uses.
-- Assumes nothing.
use Prim.Native.Nat.{ℕ, ◌+◌, ◌*◌, ◌≤◌, ◌<◌}
use mathlib.Core.Path.{◌≡◌, refl, sym, ap, ap₂, ◌∙◌}
use mathlib.Core.List.{List, [], ◌∷◌, ◌++◌, append_assoc, append-nil}
use native.Mathlib.Numerals.{add-one}
use native.Mathlib.Omega.{arith}
use lib.ListN.{length, take, drop, set, take-append-drop, length-append, length-set}
use lib.Seq.{take-suc-set, drop-set-lt, drop-drop, length-take-le}
use Rattle.lfa.specs.Route.{Move, go, Takes}
use Rattle.route.specs.Leg.{Leg}
use Rattle.route.proofs.LegLaws.{leg_goes, leg_once, leg_uses}

-- ---- what is written

-- b is b₀ with the first k elements written over; what they and rest make is whole
pub record Wrote (b₀ b : List ℕ) (k : ℕ) (rest whole : List ℕ) : Type 0 where
  pub room : k + length rest ≤ length b₀
  pub same : length b ≡ length b₀
  pub done : take k b ++ rest ≡ whole
  pub left : drop k b ≡ drop k b₀

-- Nothing is written yet; one router more is, the first of the rest; and where there is no rest, all of it is written and what comes
-- behind is as it was.
wrote_none : (b : List ℕ) (k : ℕ) (rest : List ℕ) → k + length rest ≤ length b → Wrote b b k rest (take k b ++ rest)
wrote_none b k rest h = record { room = h; same = refl; done = refl; left = refl }

wrote_more : {b₀ b : List ℕ} {k v : ℕ} {rest whole : List ℕ} → Wrote b₀ b k (v ∷ rest) whole → Wrote b₀ (set b k v) (k + 1) rest whole
wrote_more {b₀} {b} {k} {v} {rest} w =
    let h : k < length b = omega (arith, w.room, w.same) in
    let one : drop (k + 1) b ≡ drop (k + 1) b₀ = sym (drop-drop 1 k b) ∙ ap (drop 1) w.left ∙ drop-drop 1 k b₀ in
    record {
      room = omega (arith, w.room);
      same = length-set b k v ∙ w.same;
      done = rw (add-one, take-suc-set, append_assoc) w.done;
      left = drop-set-lt (k + 1) b k v (omega arith) ∙ one;
    }

wrote_all : {b₀ b : List ℕ} {k : ℕ} {whole : List ℕ} → Wrote b₀ b k [] whole → (k ≡ length whole) × (b ≡ whole ++ drop k b₀)
wrote_all {b₀} {b} {k} {whole} w =
    let t : take k b ≡ whole = sym (append-nil (take k b)) ∙ w.done in
    let h : k ≤ length b = omega (arith, w.room, w.same) in
    (sym (length-take-le k b h) ∙ ap length t, sym (take-append-drop k b) ∙ ap (λ (l : List ℕ). l ++ drop k b) t ∙ ap (λ (l : List ℕ). whole ++ l) w.left)

-- ---- the play of a leg

-- from `start`, with i₀ choice bytes used and k₀ routers in the buffer b₀, the play has come to x with i bytes used and k routers in b
pub record Playing (moves : ℕ → List Move) (choices : List ℕ) (stop n start i₀ k₀ : ℕ) (b₀ : List ℕ) (x i k : ℕ) (b : List ℕ) : Type 0 where
  pub whole : List ℕ
  pub rest : List ℕ
  pub next : ℕ
  pub from_start : Leg moves choices stop i₀ start whole next
  pub ahead : Leg moves choices stop i x rest next
  pub wrote : Wrote b₀ b k rest (take k₀ b₀ ++ whole)
  pub few : next ≤ 2 * n
  pub short : k + length rest ≤ 2 * n
  pub inside : x < n

module _ {moves : ℕ → List Move} {choices : List ℕ} {stop n start i₀ k₀ : ℕ} {b₀ : List ℕ} where
  pub playing_starts : {whole : List ℕ} {next : ℕ} → Leg moves choices stop i₀ start whole next → next ≤ 2 * n → k₀ + length whole ≤ length b₀ → k₀ + length whole ≤ 2 * n → start < n →
      Playing moves choices stop n start i₀ k₀ b₀ start i₀ k₀ b₀
  playing_starts {whole} {next} l few room short h = record { whole = whole; rest = whole; next = next; from_start = l; ahead = l; wrote = wrote_none b₀ k₀ whole room; few = few; short = short; inside = h }

  module _ {x i k : ℕ} {b : List ℕ} (p : Playing moves choices stop n start i₀ k₀ b₀ x i k b) where
    -- where the leg does not stop it uses a byte, and so fewer than it may have been used before
    pub playing_uses : (x ≡ stop → ⊥) → i < 2 * n
    playing_uses h = omega (arith, leg_uses h p.ahead, p.few)

    -- The router that the next byte leads to is written: it is the first of those ahead, so there is room for it, and what is written
    -- and what is ahead still make the leg.
    pub playing_on : {z : ℕ} → (x ≡ stop → ⊥) → Takes moves choices i x (go z) → z < n → (k < length b₀) × (k < 2 * n) × Playing moves choices stop n start i₀ k₀ b₀ z (i + 1) (k + 1) (set b k z)
    playing_on {z} h t z-in =
        let g = leg_goes h t p.ahead in
        let w = rw g.1 at p.wrote in
        let short : k + length (z ∷ g.0) ≤ 2 * n = rw g.1 at p.short in (
          omega (arith, w.room),
          omega arith,
          record { whole = p.whole; rest = g.0; next = p.next; from_start = p.from_start; ahead = rw add-one g.2; wrote = wrote_more w; few = p.few; short = omega arith; inside = z-in },
        )

    -- The leg is over, with j bytes used: the buffer holds it behind what was there, and its later bytes are untouched.
    pub playing_ends : {j : ℕ} → (p.rest ≡ []) × (p.next ≡ j) → {rs : List ℕ} {next : ℕ} → Leg moves choices stop i₀ start rs next → k₀ ≤ length b₀ →
        (j ≡ next) × (k ≡ k₀ + length rs) × (b ≡ (take k₀ b₀ ++ rs) ++ drop k b₀)
    playing_ends e {rs} l room =
        let w = wrote_all (rw e.0 at p.wrote) in
        let s = leg_once p.from_start l in (
          sym e.1 ∙ s.1,
          w.0 ∙ length-append (take k₀ b₀) p.whole ∙ ap₂ (λ (a b : ℕ). a + b) (length-take-le k₀ b₀ room) (ap length s.0),
          w.1 ∙ ap (λ (l : List ℕ). (take k₀ b₀ ++ l) ++ drop k b₀) s.0,
        )
