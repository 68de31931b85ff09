-- "Spaces": P, extended P and Q, each as one 64-bit set.
-- Assumes nothing.
use Rattle.std.specs.Prelude.{ℕ, zero, suc, ◌+◌, ◌*◌, ◌/◌, ◌%◌, ◌^◌, ◌<◌, ◌≡◌, Bool, not, ◌&&◌, eqb, ltb, get_or}
use mathlib.Core.List.{List, map, Memᴰ}
use Rattle.lfa.specs.Lists.{any_of, one, count, select}
use Rattle.lfa.specs.Network.{Link, link, Arc, arc, Network, router}
use Rattle.lfa.specs.Walk.{Avoids, avoids}

-- ---- the question

-- Point 1: "Our radio crews set a direction's cost to 65,535 before climbing a mast": at this cost a link is under maintenance
abbrev pub under_maintenance : ℕ
under_maintenance = 65535

-- the protected link, seen from the end that the question names: its number, the repairing router S (`near`), the far router E
-- (`far`), the cost S to E (`out`) and the cost E to S (`back`); and the cost below which no link is under maintenance
pub record Protected : Type 0 where
  pub number : ℕ
  pub near : ℕ
  pub far : ℕ
  pub out : ℕ
  pub back : ℕ
  pub maintenance : ℕ

-- "0 makes a the repairing router S and b the far router E, 1 the reverse"
unfoldable pub protected_by : (maintenance l e : ℕ) → Link → Protected
protected_by m l zero (link a b ab ba) = record { number = l; near = a; far = b; out = ab; back = ba; maintenance = m }
protected_by m l (suc e) (link a b ab ba) = record { number = l; near = b; far = a; out = ba; back = ab; maintenance = m }

unfoldable pub protected : (maintenance : ℕ) → Network → (l e : ℕ) → Protected
protected m net l e = protected_by m l e (get_or net.links l (link 0 0 0 0))

-- ---- the first hops: "a neighbour of S, not E". Point 1: "a neighbour counts as a first hop only when the cost from S to it is below
-- 65,535. Walks may still use such a link"

-- a first hop: the neighbour, the cost from S to it, and the link that leads there
pub record FirstHop : Type 0 where
  pub router : ℕ
  pub cost : ℕ
  pub over : ℕ

-- S reaches the router at this cost over this link, the router is not E, and the link is not under maintenance
pub record IsFirstHop (hops : List Arc) (q : Protected) (f : FirstHop) : Type 0 where
  pub joined : Memᴰ (arc q.near f.router f.cost f.over) hops
  pub not_far : f.router ≡ q.far → ⊥
  pub in_service : f.cost < q.maintenance

-- the first hops as a list, in file order of the links: the arc leaves S, does not lead to E, and is not under maintenance
unfoldable pub is_first : Protected → Arc → Bool
is_first q (arc x z c l) = eqb x q.near && not (eqb z q.far) && ltb c q.maintenance

unfoldable pub hop_over : Arc → FirstHop
hop_over (arc x z c l) = record { router = z; cost = c; over = l }

unfoldable pub first_hops : Protected → List Arc → List FirstHop
first_hops q hops = map hop_over (select (is_first q) hops)

-- ---- the three spaces

pub data Space : Type 0 where
  p_space extended_p q_space : Space

-- some first hop avoids to router r
pub record NeighbourAvoids (hops : List Arc) (d : ℕ → ℕ → ℕ) (q : Protected) (r : ℕ) : Type 0 where
  pub neighbour : FirstHop
  pub first_hop : IsFirstHop hops q neighbour
  pub avoids_to : Avoids hops d (router r) q.number neighbour.router

-- the members of each space, by walks. P: "routers that S avoids to". Extended P: "routers that some neighbour of S other than E
-- avoids to", a neighbour being meant as a first hop is (Point 1). Q: "routers that avoid to E".
abbrev pub Member : Space → List Arc → (ℕ → ℕ → ℕ) → Protected → ℕ → Type 0
Member p_space hops d q r = Avoids hops d (router r) q.number q.near
Member extended_p hops d q r = NeighbourAvoids hops d q r
Member q_space hops d q r = Avoids hops d (router q.far) q.number r

-- whether router r is in the space
unfoldable pub in_space : Space → ℕ → List Arc → (ℕ → ℕ → ℕ) → Protected → ℕ → Bool
in_space p_space n hops d q r = avoids n hops d (router r) q.number q.near
in_space extended_p n hops d q r = any_of (λ f. avoids n hops d (router r) q.number f.router) (first_hops q hops)
in_space q_space n hops d q r = avoids n hops d (router q.far) q.number r

-- ---- sets

-- the set of the routers below n that pass a test, "router r being the bit of weight 2 to the power r"
unfoldable pub set_of : ℕ → (ℕ → Bool) → ℕ
set_of zero p = 0
set_of (suc n) p = one (p n) * 2 ^ n + set_of n p

-- router r is a member of the set
unfoldable pub has : ℕ → ℕ → Bool
has set r = eqb (set / 2 ^ r % 2) 1

-- the size of a 64-bit set: the number of its members
unfoldable pub size_of : ℕ → ℕ
size_of set = count (has set) 64

unfoldable pub space_of : Space → ℕ → List Arc → (ℕ → ℕ → ℕ) → Protected → ℕ
space_of s n hops d q = set_of n (in_space s n hops d q)
