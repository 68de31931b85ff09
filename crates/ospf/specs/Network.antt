-- The network that a run of Router-LSAs means, computed.
-- Assumes nothing.
use Rattle.std.specs.Prelude.{ℕ, suc, ◌+◌, ◌-◌, min, Bool, true, false, ◌&&◌, ◌||◌, List, [], ◌∷◌, map, eqb, ltb, get_or, length}
use Rattle.lfa.specs.Lists.{below, select, flat}
use Rattle.lfa.specs.Network.{Link, link, at, Target, Network}
use Rattle.ospf.specs.Order.{ascend}
use Rattle.ospf.specs.Lsa.{Entry, entry, Lsa, lsa}
use Rattle.ospf.specs.Means.{Name, name}

-- ---- what the LSAs say

unfoldable pub router_of : Lsa → ℕ
router_of (lsa r es) = r

unfoldable pub links_in : Lsa → List Entry
links_in (lsa r es) = es

-- the links in the LSA of router r
unfoldable pub entries_of : List Lsa → ℕ → List Entry
entries_of [] r = []
entries_of (l ∷ run) r = elim (eqb (router_of l) r) [ true ↦ links_in l | false ↦ entries_of run r ]

unfoldable pub metric_of : Entry → ℕ
metric_of (entry id info kind tos metric) = metric

unfoldable pub name_of : Entry → Name
name_of (entry id info kind tos metric) = name id info

unfoldable pub is_towards : ℕ → Entry → Bool
is_towards y (entry id info kind tos metric) = eqb kind 1 && eqb id y

unfoldable pub is_stub : Entry → Bool
is_stub (entry id info kind tos metric) = eqb kind 3

unfoldable pub is_stub_of : Name → Entry → Bool
is_stub_of (name n m) (entry id info kind tos metric) = eqb kind 3 && eqb id n && eqb info m

-- the metrics of the point-to-point links from x to y, in the order of x's LSA
unfoldable pub towards : List Lsa → ℕ → ℕ → List ℕ
towards run x y = map metric_of (select (is_towards y) (entries_of run x))

-- the metrics of x's stub links for a network and mask
unfoldable pub stubs_of : List Lsa → ℕ → Name → List ℕ
stubs_of run x p = map metric_of (select (is_stub_of p) (entries_of run x))

-- the network and mask of every stub link
unfoldable pub stub_names : List Lsa → List Name
stub_names run = flat (map (λ l. map name_of (select is_stub (links_in l))) run)

-- ---- routers: "numbered by ascending Link State ID"

unfoldable pub ids_of : List Lsa → List ℕ
ids_of run = ascend ltb (map router_of run)

-- ---- links

-- links between a and b: the first metric out with the first back, and so on; any left over are dropped. A good LSA has one metric at most
unfoldable pub pair_up : ℕ → ℕ → List ℕ → List ℕ → List Link
pair_up a b [] backs = []
pair_up a b (out ∷ outs) [] = []
pair_up a b (out ∷ outs) (back ∷ backs) = link a b out back ∷ pair_up a b outs backs

-- the links that join router a and router b
unfoldable pub joining : List Lsa → List ℕ → ℕ → ℕ → List Link
joining run ids a b = pair_up a b (towards run (get_or ids a 0) (get_or ids b 0)) (towards run (get_or ids b 0) (get_or ids a 0))

-- the links of router a to higher routers, "the lower router as a": a + 1, a + 2 and so on
unfoldable pub links_up : List Lsa → List ℕ → ℕ → List Link
links_up run ids a = flat (map (λ k. joining run ids a (suc a + k)) (below (length ids - suc a)))

-- ---- prefixes

unfoldable pub name_less : Name → Name → Bool
name_less (name n m) (name n' m') = ltb n n' || (eqb n n' && ltb m m')

-- "ordered by network, then mask"
unfoldable pub names_of : List Lsa → List Name
names_of run = ascend name_less (stub_names run)

unfoldable pub least_of : ℕ → List ℕ → ℕ
least_of m [] = m
least_of m (k ∷ ms) = least_of (min m k) ms

-- router a's attachment, where it has such a stub link: "Two stub entries .. keep the lower metric"
unfoldable pub attachment : ℕ → List ℕ → Target
attachment a [] = []
attachment a (m ∷ ms) = at a (least_of m ms) ∷ []

-- "attachments by router"
unfoldable pub attached : List Lsa → List ℕ → Name → Target
attached run ids p = flat (map (λ a. attachment a (stubs_of run (get_or ids a 0) p)) (below (length ids)))

-- ---- the network

unfoldable pub network_with : List Lsa → List ℕ → List Name → Network
network_with run ids names = record {
  routers = length ids;
  links = flat (map (links_up run ids) (below (length ids)));
  prefixes = map (attached run ids) names;
}

-- the network of a run of good LSAs
unfoldable pub network_from : List Lsa → Network
network_from run = network_with run (ids_of run) (names_of run)
