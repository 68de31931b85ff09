-- "Played routes": options, choice bytes, the route that choice bytes name, and how it is computed.
-- Assumes nothing.
use Rattle.std.specs.Prelude.{ℕ, zero, suc, ◌%◌, ◌<◌, ◌≡◌, ◌⊎◌, Bool, true, false, ◌&&◌, eqb, ltb, get_or, length}
use mathlib.Core.List.{List, [], ◌∷◌, ◌++◌, map, Memᴰ}
use Rattle.lfa.specs.Lists.{below, select, any_of}
use Rattle.lfa.specs.Network.{Arc, arc, Target, router, is_attached}
use Rattle.lfa.specs.Distance.{unreachable, towards}
use Rattle.lfa.specs.Walk.{Step, Delivers, is_step}

-- ---- options at a router

-- the arc is a step from x to z
unfoldable pub is_step_to : (ℕ → ℕ → ℕ) → Target → ℕ → ℕ → Arc → Bool
is_step_to d to x z (arc u v c l) = is_step d to x (arc u v c l) && eqb v z

-- the next routers of a walk at x, ascending
unfoldable pub next_routers : ℕ → List Arc → (ℕ → ℕ → ℕ) → Target → ℕ → List ℕ
next_routers n hops d to x = select (λ z. any_of (is_step_to d to x z) hops) (below n)

-- whether x delivers
unfoldable pub delivers : (ℕ → ℕ → ℕ) → Target → ℕ → Bool
delivers d to x = ltb (towards d to x) unreachable && is_attached to x

pub data Move : Type 0 where
  deliver : Move
  go : (next : ℕ) → Move

unfoldable pub moves_of : Bool → List ℕ → List Move
moves_of true zs = deliver ∷ map go zs
moves_of false zs = map go zs

-- a move that a walk by these steps and to these ends has at x
abbrev pub HasMoveBy : (steps : ℕ → ℕ → ℕ → Type 0) → (ends : ℕ → Type 0) → ℕ → Move → Type 0
HasMoveBy steps ends x deliver = ends x
HasMoveBy steps ends x (go z) = (l : ℕ) × steps x z l

abbrev pub HasMove : List Arc → (ℕ → ℕ → ℕ) → Target → ℕ → Move → Type 0
HasMove hops d to = HasMoveBy (Step hops d to) (Delivers d to)

-- each number is below those that follow
pub data Ascending : List ℕ → Type 0 where
  nothing : Ascending []
  before : {x : ℕ} {l : List ℕ} → ((y : ℕ) → Memᴰ y l → x < y) → Ascending l → Ascending (x ∷ l)

-- "Options at a router stand with delivery first, then next routers ascending": these moves are the options at x. Since Point 4 an
-- attached router has no next router, so that delivery is its only option.
pub record AreOptionsBy (steps : ℕ → ℕ → ℕ → Type 0) (ends : ℕ → Type 0) (x : ℕ) (moves : List Move) : Type 0 where
  pub each : (m : Move) → Memᴰ m moves → HasMoveBy steps ends x m
  pub every : (m : Move) → HasMoveBy steps ends x m → Memᴰ m moves
  pub nexts : List ℕ
  pub ascending : Ascending nexts
  pub delivery_first : (moves ≡ deliver ∷ map go nexts) ⊎ (moves ≡ map go nexts)

abbrev pub AreOptions : List Arc → (ℕ → ℕ → ℕ) → Target → ℕ → List Move → Type 0
AreOptions hops d to = AreOptionsBy (Step hops d to) (Delivers d to)

-- how they are computed
unfoldable pub options : ℕ → List Arc → (ℕ → ℕ → ℕ) → Target → ℕ → List Move
options n hops d to x = moves_of (delivers d to x) (next_routers n hops d to x)

-- ---- choice bytes

-- the choice byte number i: "a byte that has run out counts as 0"
unfoldable pub choice_at : List ℕ → ℕ → ℕ
choice_at choices i = get_or choices i 0

-- "option number is the next choice byte modulo the number of options"; a router of a route has some
unfoldable pub option_taken : List Move → ℕ → Move
option_taken ms byte = get_or ms (byte % length ms) deliver

-- ---- the meaning: the legs and the route that choice bytes name

-- at router x, choice byte number i takes this move
abbrev pub Takes : (ℕ → List Move) → List ℕ → ℕ → ℕ → Move → Type 0
Takes moves choices i x m = option_taken (moves x) (choice_at choices i) ≡ m

-- the first leg from x, choice byte number i being the next: the routers arrived at after x, up to y, and the number of the next
-- choice byte then. Each router but y uses a byte, "a single option uses a byte too; arrival at y uses none".
pub data FirstLeg (moves : ℕ → List Move) (choices : List ℕ) (y : ℕ) : ℕ → ℕ → List ℕ → ℕ → Type 0 where
  arrived : {i : ℕ} → FirstLeg moves choices y i y [] i
  onward : {i x z j : ℕ} {rs : List ℕ} → (x ≡ y → ⊥) → Takes moves choices i x (go z) → FirstLeg moves choices y (suc i) z rs j → FirstLeg moves choices y i x (z ∷ rs) j

-- the second leg from x: the routers arrived at after x, up to delivery
pub data SecondLeg (moves : ℕ → List Move) (choices : List ℕ) : ℕ → ℕ → List ℕ → Type 0 where
  delivered : {i x : ℕ} → Takes moves choices i x deliver → SecondLeg moves choices i x []
  onward : {i x z : ℕ} {rs : List ℕ} → Takes moves choices i x (go z) → SecondLeg moves choices (suc i) z rs → SecondLeg moves choices i x (z ∷ rs)

-- the route that choice bytes name: "S, then the walk from n to y, then from y on to delivery, each router .. once per arrival
-- (y is written once)"
pub record NamedRoute (routers : ℕ) (hops : List Arc) (d : ℕ → ℕ → ℕ) (to : Target) (choices : List ℕ) (s n y : ℕ) (route : List ℕ) : Type 0 where
  pub tunnel : List ℕ
  pub rest : List ℕ
  pub used : ℕ
  pub first_leg : FirstLeg (options routers hops d (router y)) choices y 0 n tunnel used
  pub second_leg : SecondLeg (options routers hops d to) choices used y rest
  pub whole : route ≡ s ∷ n ∷ (tunnel ++ rest)

-- ---- the computation, with as many hops at most as there are routers

-- the routers after x up to y, choice byte number i being the next
unfoldable pub play_to : ℕ → (ℕ → List Move) → List ℕ → ℕ → ℕ → ℕ → List ℕ
play_to zero moves choices y i x = []
play_to (suc fuel) moves choices y i x =
    elim (eqb x y) [
      | true ↦ []
      | false ↦ elim (option_taken (moves x) (choice_at choices i)) [ deliver ↦ [] | go z ↦ z ∷ play_to fuel moves choices y (suc i) z ]
    ]

-- the routers after x up to delivery
unfoldable pub play_on : ℕ → (ℕ → List Move) → List ℕ → ℕ → ℕ → List ℕ
play_on zero moves choices i x = []
play_on (suc fuel) moves choices i x =
    elim (option_taken (moves x) (choice_at choices i)) [ deliver ↦ [] | go z ↦ z ∷ play_on fuel moves choices (suc i) z ]

unfoldable pub route_of : ℕ → List Arc → (ℕ → ℕ → ℕ) → Target → List ℕ → ℕ → ℕ → ℕ → List ℕ
route_of routers hops d to choices s n y =
    let tunnel : List ℕ = play_to routers (options routers hops d (router y)) choices y 0 n in
    s ∷ n ∷ (tunnel ++ play_on routers (options routers hops d to) choices (length tunnel) y)
