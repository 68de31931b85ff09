-- "Distances and walks", second half: walks, crossing a link, visiting a router, arriving, avoiding.
-- `hops` are the network's arcs, `d x t` is D(x,t), and `towards d to x` is D(x, target). A router is the target to which it
-- alone is attached, at no cost, so that one notion of walk serves routers and prefixes.
-- Assumes nothing.
use Rattle.std.specs.Prelude.{ℕ, zero, suc, ◌+◌, ◌<◌, ◌≡◌, ◌⊎◌, Bool, not, ◌&&◌, ◌||◌, eqb, ltb}
use mathlib.Core.List.{List, [], Memᴰ}
use Rattle.lfa.specs.Lists.{any_of, below, select, member_of}
use Rattle.lfa.specs.Network.{Arc, arc, Target, Attached, is_attached}
use Rattle.lfa.specs.Distance.{unreachable, towards}

-- ---- the meaning

-- "A walk towards t steps from x to a neighbour z when the cost x to z plus D(z,t) equals finite D(x,t)." The step is a hop
-- over link l. Point 4: "a walk towards a prefix now ends at the first attached router on it, however dear that attachment is. D(x,p) is
-- reckoned as before." No step leaves an attached router. "Towards a router it ends there", since that router is attached.
pub record Step (hops : List Arc) (d : ℕ → ℕ → ℕ) (to : Target) (x z l : ℕ) : Type 0 where
  pub cost : ℕ
  pub joined : Memᴰ (arc x z cost l) hops
  pub unattached : Attached to x → ⊥
  pub tight : cost + towards d to z ≡ towards d to x
  pub finite : towards d to x < unreachable

-- Point 4: an attached router delivers, "however dear that attachment is"
pub record Delivers (d : ℕ → ℕ → ℕ) (to : Target) (x : ℕ) : Type 0 where
  pub attached : Attached to x
  pub finite : towards d to x < unreachable

-- A walk by some steps from x, so far: it has led to u in n hops ("delivery is no hop"). `steps x z l` says that x may go on to z, over link
-- l.
pub data WalkBy (steps : ℕ → ℕ → ℕ → Type 0) : ℕ → ℕ → ℕ → Type 0 where
  here : {x : ℕ} → WalkBy steps x x 0
  hop : {x z l u n : ℕ} → steps x z l → WalkBy steps z u n → WalkBy steps x u (suc n)

-- some walk by these steps crosses link l, from u to v: "a walk crosses a link when one of its hops is over it"
pub record CrossesBy (steps : ℕ → ℕ → ℕ → Type 0) (x l u v : ℕ) : Type 0 where
  pub count : ℕ
  pub walk : WalkBy steps x u count
  pub step : steps u v l

-- some walk by these steps from x visits v. Point 5 asks that no walk "visits E": the start of a walk is visited, and so is the router at
-- which it ends.
pub record VisitsBy (steps : ℕ → ℕ → ℕ → Type 0) (x v : ℕ) : Type 0 where
  pub count : ℕ
  pub walk : WalkBy steps x v count

-- "Every walk arrives in fewer than N hops when, whatever steps were taken, each has ended or can step or deliver next, and
-- none has N hops." `ends u` says that a walk may end at u.
pub record ArrivesBy (steps : ℕ → ℕ → ℕ → Type 0) (ends : ℕ → Type 0) (n x : ℕ) : Type 0 where
  pub goes : (u k : ℕ) → WalkBy steps x u k → ends u ⊎ ((z : ℕ) × (l : ℕ) × steps u z l)
  pub few : (u k : ℕ) → WalkBy steps x u k → k < n

-- the walks towards a target. To have ended is to be at a router that delivers.
abbrev pub Walk : List Arc → (ℕ → ℕ → ℕ) → Target → ℕ → ℕ → ℕ → Type 0
Walk hops d to = WalkBy (Step hops d to)

abbrev pub Crosses : List Arc → (ℕ → ℕ → ℕ) → Target → ℕ → ℕ → ℕ → ℕ → Type 0
Crosses hops d to = CrossesBy (Step hops d to)

abbrev pub Visits : List Arc → (ℕ → ℕ → ℕ) → Target → ℕ → ℕ → Type 0
Visits hops d to = VisitsBy (Step hops d to)

abbrev pub Arrives : List Arc → (ℕ → ℕ → ℕ) → Target → ℕ → ℕ → Type 0
Arrives hops d to = ArrivesBy (Step hops d to) (Delivers d to)

-- "Avoiding, from x to t: t is reachable from x and no walk from x towards t crosses the link, either way."
pub record Avoids (hops : List Arc) (d : ℕ → ℕ → ℕ) (to : Target) (l x : ℕ) : Type 0 where
  pub reachable : towards d to x < unreachable
  pub none : (u v : ℕ) → Crosses hops d to x l u v → ⊥

-- ---- the tests, decided by walks: each round follows the steps one hop further

-- the arc is a step of a walk at x
unfoldable pub is_step : (ℕ → ℕ → ℕ) → Target → ℕ → Arc → Bool
is_step d to x (arc u v c l) = eqb u x && not (is_attached to x) && eqb (c + towards d to v) (towards d to x) && ltb (towards d to x) unreachable

-- the arc is a step at x that is wanted, or that leads to a router already known
unfoldable pub leads : (ℕ → ℕ → ℕ) → Target → (Arc → Bool) → List ℕ → ℕ → Arc → Bool
leads d to wanted known x (arc u v c l) = is_step d to x (arc u v c l) && (wanted (arc u v c l) || member_of v known)

-- the routers from which some walk takes a wanted hop within k hops
unfoldable pub takers : ℕ → List Arc → (ℕ → ℕ → ℕ) → Target → (Arc → Bool) → ℕ → List ℕ
takers n hops d to wanted zero = []
takers n hops d to wanted (suc k) =
    let known : List ℕ = takers n hops d to wanted k in
    select (λ x. any_of (leads d to wanted known x) hops) (below n)

-- the hop is over link l
unfoldable pub over : ℕ → Arc → Bool
over l (arc u v c k) = eqb k l

-- the hop is over link l, from u to v
unfoldable pub over_from : ℕ → ℕ → ℕ → Arc → Bool
over_from l u v (arc x z c k) = eqb k l && eqb x u && eqb z v

-- whether x avoids to the target
unfoldable pub avoids : ℕ → List Arc → (ℕ → ℕ → ℕ) → Target → ℕ → ℕ → Bool
avoids n hops d to l x = ltb (towards d to x) unreachable && not (member_of x (takers n hops d to (over l) n))

-- whether some walk from x towards the target crosses link l from u to v
unfoldable pub crosses : ℕ → List Arc → (ℕ → ℕ → ℕ) → Target → ℕ → ℕ → ℕ → ℕ → Bool
crosses n hops d to l u v x = member_of x (takers n hops d to (over_from l u v) n)

-- the hop leads to router v
unfoldable pub into : ℕ → Arc → Bool
into v (arc x z c k) = eqb z v

-- whether some walk from x towards the target visits router v: it starts there, or takes a hop to v
unfoldable pub visits : ℕ → List Arc → (ℕ → ℕ → ℕ) → Target → ℕ → ℕ → Bool
visits n hops d to v x = eqb x v || member_of x (takers n hops d to (into v) n)
