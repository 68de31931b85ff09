-- "Repairs": pairs, serving, node protection (Point 5), class, the order, link repair and prefix repair.
-- Assumes nothing.
use Rattle.std.specs.Prelude.{ℕ, ◌+◌, ◌≤◌, ◌<◌, ◌≡◌, ◌⊎◌, Bool, true, false, not, ◌&&◌, ◌||◌, List, [], ◌∷◌, map, eqb, ltb}
use Rattle.std.proofs.Math.Option.{Option, none, some}
use Rattle.lfa.specs.Lists.{below, select, flat}
use Rattle.lfa.specs.Network.{Arc, Target, router}
use Rattle.lfa.specs.Distance.{unreachable, towards}
use Rattle.lfa.specs.Walk.{Avoids, Crosses, Visits, avoids, crosses, visits}
use Rattle.lfa.specs.Space.{Protected, FirstHop, IsFirstHop, first_hops}
use Rattle.lfa.specs.Ranks.{rank_of}

-- ---- pairs

-- a pair (n, y): the first hop n and the endpoint y
pub record Pair : Type 0 where
  pub hop : FirstHop
  pub endpoint : ℕ

-- "the first hop n, a neighbour of S, not E; and the endpoint y, a router, neither S nor E"; Point 1 says which neighbours count
pub record IsPair (routers : ℕ) (hops : List Arc) (q : Protected) (p : Pair) : Type 0 where
  pub first_hop : IsFirstHop hops q p.hop
  pub end_in : p.endpoint < routers
  pub end_not_near : p.endpoint ≡ q.near → ⊥
  pub end_not_far : p.endpoint ≡ q.far → ⊥

-- whether y may be the endpoint of a pair
unfoldable pub is_endpoint : Protected → ℕ → Bool
is_endpoint q y = not (eqb y q.near) && not (eqb y q.far)

-- the pairs of one first hop
unfoldable pub pairs_of : Protected → ℕ → FirstHop → List Pair
pairs_of q n f = map (λ y. record { hop = f; endpoint = y }) (select (is_endpoint q) (below n))

unfoldable pub pairs : Protected → ℕ → List Arc → List Pair
pairs q n hops = flat (map (pairs_of q n) (first_hops q hops))

-- ---- serving

-- "It serves target t when n avoids to y and y avoids to t."
pub record Serves (hops : List Arc) (d : ℕ → ℕ → ℕ) (q : Protected) (to : Target) (n y : ℕ) : Type 0 where
  pub tunnel : Avoids hops d (router y) q.number n
  pub onward : Avoids hops d to q.number y

unfoldable pub serves : ℕ → List Arc → (ℕ → ℕ → ℕ) → Protected → Target → Pair → Bool
serves routers hops d q to p = avoids routers hops d (router p.endpoint) q.number p.hop.router && avoids routers hops d to q.number p.endpoint

-- "Traffic from S to a prefix p may cross the link when some walk from S towards p crosses it from S to E."
abbrev pub MayCross : List Arc → (ℕ → ℕ → ℕ) → Protected → Target → Type 0
MayCross hops d q to = Crosses hops d to q.near q.number q.near q.far

unfoldable pub may_cross : ℕ → List Arc → (ℕ → ℕ → ℕ) → Protected → Target → Bool
may_cross n hops d q to = crosses n hops d to q.number q.near q.far q.near

-- ---- node protection

-- Point 5: "A pair is node-protecting for a prefix when no walk from n to y, nor from y to delivery, visits E."
pub record NodeProtecting (hops : List Arc) (d : ℕ → ℕ → ℕ) (q : Protected) (to : Target) (n y : ℕ) : Type 0 where
  pub tunnel : Visits hops d (router y) n q.far → ⊥
  pub onward : Visits hops d to y q.far → ⊥

unfoldable pub node_protects : ℕ → List Arc → (ℕ → ℕ → ℕ) → Protected → Target → Pair → Bool
node_protects routers hops d q to p = not (visits routers hops d (router p.endpoint) q.far p.hop.router) && not (visits routers hops d to q.far p.endpoint)

-- ---- class and order

-- "Class: 0 if y = n, 2 if not; plus 1 unless D(y,t) < D(S,t)": the class of document 01, which looks at the link alone
pub data HasBaseClass (d : ℕ → ℕ → ℕ) (q : Protected) (to : Target) (n y : ℕ) : ℕ → Type 0 where
  neighbour_downstream : y ≡ n → towards d to y < towards d to q.near → HasBaseClass d q to n y 0
  neighbour_other : y ≡ n → towards d to q.near ≤ towards d to y → HasBaseClass d q to n y 1
  tunnel_downstream : (y ≡ n → ⊥) → towards d to y < towards d to q.near → HasBaseClass d q to n y 2
  tunnel_other : (y ≡ n → ⊥) → towards d to q.near ≤ towards d to y → HasBaseClass d q to n y 3

-- Point 5: "Classes 0 to 3 are for node-protecting pairs; any other pair has 4 added."
pub data HasClass (hops : List Arc) (d : ℕ → ℕ → ℕ) (q : Protected) (to : Target) (n y : ℕ) : ℕ → Type 0 where
  node_protecting : {k : ℕ} → NodeProtecting hops d q to n y → HasBaseClass d q to n y k → HasClass hops d q to n y k
  any_other : {k : ℕ} → (NodeProtecting hops d q to n y → ⊥) → HasBaseClass d q to n y k → HasClass hops d q to n y (k + 4)

-- 0 where the test passes, else the number
unfoldable pub or_else : Bool → ℕ → ℕ
or_else true k = 0
or_else false k = k

unfoldable pub base_class_of : (ℕ → ℕ → ℕ) → Protected → Target → Pair → ℕ
base_class_of d q to p = or_else (eqb p.endpoint p.hop.router) 2 + or_else (ltb (towards d to p.endpoint) (towards d to q.near)) 1

unfoldable pub class_of : ℕ → List Arc → (ℕ → ℕ → ℕ) → Protected → Target → Pair → ℕ
class_of routers hops d q to p = base_class_of d q to p + or_else (node_protects routers hops d q to p) 4

-- what a repair tells of its pair: "It holds n, y, class and that last sum, the tunnel cost."
pub record Told : Type 0 where
  pub first : ℕ
  pub endpoint : ℕ
  pub class : ℕ
  pub cost : ℕ

-- what is told is of this pair; the tunnel cost is "cost S to n plus D(n,y)"
pub record Tells (hops : List Arc) (d : ℕ → ℕ → ℕ) (q : Protected) (to : Target) (p : Pair) (t : Told) : Type 0 where
  pub first_is : t.first ≡ p.hop.router
  pub endpoint_is : t.endpoint ≡ p.endpoint
  pub class_is : HasClass hops d q to p.hop.router p.endpoint t.class
  pub cost_is : t.cost ≡ p.hop.cost + d p.hop.router p.endpoint

unfoldable pub told_of : ℕ → List Arc → (ℕ → ℕ → ℕ) → Protected → Target → Pair → Told
told_of routers hops d q to p = record {
  first = p.hop.router;
  endpoint = p.endpoint;
  class = class_of routers hops d q to p;
  cost = p.hop.cost + d p.hop.router p.endpoint;
}

-- what the order looks at: the rank, D(S,y), y, the tunnel cost, n
pub record Keys : Type 0 where
  pub rank : ℕ
  pub distance : ℕ
  pub endpoint : ℕ
  pub cost : ℕ
  pub first : ℕ

-- the keys of what is told of a pair, where its class has this rank
abbrev pub keys_at : (rank : ℕ) → (ℕ → ℕ → ℕ) → Protected → Told → Keys
keys_at rank d q t = record { rank = rank; distance = d q.near t.endpoint; endpoint = t.endpoint; cost = t.cost; first = t.first }

-- Point 2: "rank replaces class as the first key"
abbrev pub keys_of : (ranks : List ℕ) → (ℕ → ℕ → ℕ) → Protected → Told → Keys
keys_of ranks d q t = keys_at (rank_of ranks t.class) d q t

-- "the one with lowest class, then D(S,y), then y, then cost S to n plus D(n,y), then n", the rank in the place of the class: a clause for
-- each key
pub data Precedes (a b : Keys) : Type 0 where
  by_rank : a.rank < b.rank → Precedes a b
  by_distance : a.rank ≡ b.rank → a.distance < b.distance → Precedes a b
  by_endpoint : a.rank ≡ b.rank → a.distance ≡ b.distance → a.endpoint < b.endpoint → Precedes a b
  by_tunnel : a.rank ≡ b.rank → a.distance ≡ b.distance → a.endpoint ≡ b.endpoint → a.cost < b.cost → Precedes a b
  by_hop : a.rank ≡ b.rank → a.distance ≡ b.distance → a.endpoint ≡ b.endpoint → a.cost ≡ b.cost → a.first < b.first → Precedes a b

-- b does not come before a: a precedes b, or the two have the same keys
abbrev pub First : Keys → Keys → Type 0
First a b = Precedes a b ⊎ (a ≡ b)

-- ---- the computation: the pair whose list of keys comes first

unfoldable pub key : Keys → List ℕ
key k = k.rank ∷ k.distance ∷ k.endpoint ∷ k.cost ∷ k.first ∷ []

-- whether list a comes no later than list b: the first place at which they differ decides
unfoldable pub no_later : List ℕ → List ℕ → Bool
no_later [] b = true
no_later (x ∷ a) [] = false
no_later (x ∷ a) (y ∷ b) = ltb x y || (eqb x y && no_later a b)

-- the earlier of a pair and what was chosen of the others
unfoldable pub earlier : (Pair → List ℕ) → Pair → Option Pair → Option Pair
earlier k p none = some p
earlier k p (some r) = elim (no_later (k p) (k r)) [ true ↦ some p | false ↦ some r ]

unfoldable pub choose : (Pair → List ℕ) → List Pair → Option Pair
choose k [] = none
choose k (p ∷ ps) = earlier k p (choose k ps)

unfoldable pub pair_key : (ranks : List ℕ) → ℕ → List Arc → (ℕ → ℕ → ℕ) → Protected → Target → Pair → List ℕ
pair_key ranks n hops d q to p = key (keys_of ranks d q (told_of n hops d q to p))

-- "Of the serving pairs the answer is the one with lowest class, then ..", by rank instead of class
unfoldable pub first_pair : (ranks : List ℕ) → ℕ → List Arc → (ℕ → ℕ → ℕ) → Protected → Target → Option Pair
first_pair ranks n hops d q to = choose (pair_key ranks n hops d q to) (select (serves n hops d q to) (pairs q n hops))

-- ---- what a repair question finds

pub data Outcome : Type 0 where
  prefix_unreachable prefix_untouched none_serves : Outcome
  serving : Told → Outcome

unfoldable pub outcome_of : ℕ → List Arc → (ℕ → ℕ → ℕ) → Protected → Target → Option Pair → Outcome
outcome_of n hops d q to none = none_serves
outcome_of n hops d q to (some p) = serving (told_of n hops d q to p)

-- "A link repair has target E."
unfoldable pub link_outcome : (ranks : List ℕ) → ℕ → List Arc → (ℕ → ℕ → ℕ) → Protected → Outcome
link_outcome ranks n hops d q = outcome_of n hops d q (router q.far) (first_pair ranks n hops d q (router q.far))

-- "A prefix repair answers unreachable when D(S,p) is unreachable, untouched when no walk from S towards p crosses the link from
-- S to E, else a pair."
unfoldable pub prefix_outcome : (ranks : List ℕ) → ℕ → List Arc → (ℕ → ℕ → ℕ) → Protected → Target → Outcome
prefix_outcome ranks n hops d q to =
    elim (ltb (towards d to q.near) unreachable) [
      | false ↦ prefix_unreachable
      | true ↦ elim (may_cross n hops d q to) [
        | false ↦ prefix_untouched
        | true ↦ outcome_of n hops d q to (first_pair ranks n hops d q to)
      ]
    ]
