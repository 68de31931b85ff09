-- The play of a named route: the slots of the tunnel's target, the two legs, and what the buffer holds after them.
-- Assumes nothing.
use Prim.Native.Nat.{ℕ, suc, ◌+◌, ◌≤◌, ◌<◌}
use mathlib.Core.Path.{◌≡◌, sym, ap, ap₂, ◌∙◌}
use mathlib.Core.List.{List, [], ◌∷◌, ◌++◌}
use native.Mathlib.Omega.{arith}
use lib.ListN.{length, get_or, take, drop, set, replicate, length-append, length-replicate, length-drop}
use lib.Seq.{length-take-le, get_or-set_same, take-append_seam, drop-append-add, drop-drop}
use Rattle.lfa.specs.Lists.{count_up, below}
use Rattle.lfa.specs.Network.{Arc, at, Target, router}
use Rattle.lfa.specs.Route.{options, NamedRoute}
use Rattle.lfa.proofs.Laws.Legs.{bytes_used}
use Rattle.metric.specs.Columns.{arcs_in}
use Rattle.metric.specs.Column.{slots_in}
use Rattle.metric.proofs.Laws.Columns.{columns_within}
use Rattle.route.specs.Leg.{Leg, Playable}
use Rattle.route.proofs.LegLaws.{first_leg, second_leg}

-- ---- the endpoint as a target

-- the single attachment of cost 0, in the first slot
abbrev pub slots : ℕ → List ℕ
slots y = set (replicate 1024 0) 0 y

abbrev pub free : List ℕ
free = replicate 1024 0

first_slot : (y : ℕ) → get_or (slots y) 0 0 ≡ y
first_slot y = get_or-set_same (replicate 1024 0) 0 y 0 (omega (arith, length-replicate {A = ℕ} 1024 0))

pub tunnel_target : (y : ℕ) → slots_in (slots y) free 0 1 ≡ router y
unfolding slots_in below count_up router
tunnel_target y = ap (λ (a : ℕ). at a 0 ∷ []) (first_slot y)

pub tunnel_playable : {n cells links slot count : ℕ} {from to out back routers : List ℕ} (y : ℕ) → y < n → Playable n cells links from to out back routers slot count →
    Playable n cells links from to out back (slots y) 0 1
tunnel_playable {n} y h p = record {
  within = p.within;
  descends = p.descends;
  slots = record { few = omega arith; router_in = λ s k. slot_in s k };
  long = p.long;
}
  where
    slot_in : (s : ℕ) → s < 1 → get_or (slots y) (0 + s) 0 < n
    slot_in s k = let e : get_or (slots y) (0 + s) 0 ≡ y = ap (λ (i : ℕ). get_or (slots y) i 0) (let z : 0 + s ≡ 0 = omega arith in z) ∙ first_slot y in omega arith

-- ---- the legs of a named route

module _ {n cells links slot count : ℕ} {from to out back routers : List ℕ} (p : Playable n cells links from to out back routers slot count)
    (d : ℕ → ℕ → ℕ) (target : Target) (choices : List ℕ) (s m y : ℕ) (y-in : y < n) {route : List ℕ} (r : NamedRoute n (arcs_in from to out back links) d target choices s m y route) where
  abbrev hops : List Arc
  hops = arcs_in from to out back links

  pub route_length : length route ≡ 2 + length r.tunnel + length r.rest
  route_length = ap length r.whole ∙ omega (arith, length-append r.tunnel r.rest)

  pub tunnel_leg : Leg (options n hops d (slots_in (slots y) free 0 1)) choices y 0 m r.tunnel r.used
  tunnel_leg = rw (tunnel_target y) (first_leg r.first_leg)

  pub tunnel_bytes : r.used ≡ length r.tunnel
  tunnel_bytes = omega (arith, bytes_used (options n hops d (router y)) choices r.first_leg)

  -- The second leg, from the bytes that the first has used. It uses one for each router that it steps to, and one to deliver.
  pub rest_leg : {used : ℕ} → used ≡ r.used → (next : ℕ) × (next ≡ length r.tunnel + length r.rest + 1) × Leg (options n hops d target) choices 64 used y r.rest next
  rest_leg e =
      let rest = second_leg n p.within.few_routers hops (columns_within from to out back links n p.within) d target choices y-in r.second_leg in
      (rest.0, omega (arith, rest.1, tunnel_bytes), rw e rest.2)

-- ---- the buffer

-- a leg leaves the buffer's length
pub leg_long : (b rs : List ℕ) (k : ℕ) {r : ℕ} {b' : List ℕ} → r ≡ k + length rs → r ≤ length b → b' ≡ (take k b ++ rs) ++ drop r b → length b' ≡ length b
leg_long b rs k {r} e h f =
    ap length f ∙ length-append (take k b ++ rs) (drop r b) ∙ omega (arith, length-append (take k b) rs, length-take-le k b (let q : k ≤ length b = omega arith in q), length-drop r b)

-- the first two routers, then the tunnel, then the rest, then what was there
pub written_all : (b₀ : List ℕ) (s m : ℕ) (tunnel rest : List ℕ) {k₁ k₂ : ℕ} {b₂ b₃ : List ℕ} → 2 ≤ length b₀ → k₁ ≡ 2 + length tunnel → k₂ ≡ k₁ + length rest →
    b₂ ≡ (take 2 (set (set b₀ 0 s) 1 m) ++ tunnel) ++ drop k₁ (set (set b₀ 0 s) 1 m) → b₃ ≡ (take k₁ b₂ ++ rest) ++ drop k₂ b₂ →
    b₃ ≡ (s ∷ m ∷ (tunnel ++ rest)) ++ drop k₂ b₀
written_all [] s m tunnel rest h e₁ e₂ f₂ f₃ = absurd (omega arith)
written_all (u ∷ []) s m tunnel rest h e₁ e₂ f₂ f₃ = absurd (omega arith)
written_all (u ∷ v ∷ b) s m tunnel rest {k₁} {k₂} {b₂} h e₁ e₂ f₂ f₃ =
    let written : List ℕ = s ∷ m ∷ tunnel in
    let left : b₂ ≡ written ++ drop k₁ (s ∷ m ∷ b) = f₂ in
    let w : k₁ ≡ length written = e₁ ∙ omega arith in
    let front : take k₁ b₂ ≡ written = ap₂ take w left ∙ take-append_seam written (drop k₁ (s ∷ m ∷ b)) in
    let back : drop k₂ b₂ ≡ drop k₂ (u ∷ v ∷ b) =
    ap₂ drop (let q : k₂ ≡ length written + length rest = omega arith in q) left ∙ drop-append-add written (drop k₁ (s ∷ m ∷ b)) (length rest) ∙ later in
    f₃ ∙ ap₂ (λ (a c : List ℕ). (a ++ rest) ++ c) front back
  where
    later : drop (length rest) (drop k₁ (s ∷ m ∷ b)) ≡ drop k₂ (u ∷ v ∷ b)
    later =
        let j : k₂ ≡ suc (suc (length tunnel + length rest)) = omega arith in
        drop-drop (length rest) k₁ (s ∷ m ∷ b) ∙ ap (λ (i : ℕ). drop i (s ∷ m ∷ b)) (let q : k₁ + length rest ≡ suc (suc (length tunnel + length rest)) = omega arith in q)
        ∙ sym (ap (λ (i : ℕ). drop i (u ∷ v ∷ b)) j)
