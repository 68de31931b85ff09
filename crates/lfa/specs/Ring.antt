-- The ring of document 01's hand-worked networks, with any costs.
-- Assumes nothing.
use Rattle.std.specs.Prelude.{ℕ, ◌+◌, true, false, List, map, ltb}
use Rattle.lfa.specs.Lists.{below}
use Rattle.lfa.specs.Network.{Link, link, Target, Network}

-- "link i joins i and i+1, the last joins k−1 and 0": router b of link i, whose router a is i
unfoldable pub next_on_ring : (k i : ℕ) → ℕ
next_on_ring k i = elim (ltb (i + 1) k) [ true ↦ i + 1 | false ↦ 0 ]

-- link i, where `out i` and `back i` are its costs
unfoldable pub ring_link : (k : ℕ) → (out back : ℕ → ℕ) → ℕ → Link
ring_link k out back i = link i (next_on_ring k i) (out i) (back i)

-- "Ring k: routers 0 to k−1"
unfoldable pub ring_of : (k : ℕ) → (out back : ℕ → ℕ) → List Target → Network
ring_of k out back prefixes = record { routers = k; links = map (ring_link k out back) (below k); prefixes = prefixes }
