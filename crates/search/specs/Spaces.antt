-- The three spaces, by the numbers that an area holds for n routers.
-- Assumes nothing.
use Rattle.std.specs.Prelude.{ℕ, ◌<◌, ◌≡◌, List, [], ◌∷◌, get_or}
use Rattle.std.specs.Int.Bits.{bit_or}
use Rattle.lfa.specs.Network.{Arc}
use Rattle.lfa.specs.Space.{Protected, FirstHop, first_hops, Space, p_space, extended_p, q_space}
use Rattle.column.specs.Calls.{router_column}
use Rattle.avoid.specs.Calls.{avoiding_to, avoiding_from}
use Rattle.arcs.specs.Arcs.{side_of}
use Rattle.search.specs.Hops.{hops_in}
use Rattle.search.specs.declared.Which.{Which}
use Rattle.search.specs.declared.Which.TheVariants.{P, ExtendedP, Q}

-- the routers that x avoids the link on the way to
abbrev pub avoided_from : (n : ℕ) → Protected → (area : List ℕ) → (x : ℕ) → ℕ
avoided_from n q area x = avoiding_from n q area area x

-- the routers that avoid the link on the way to a target, by the distances; a column holds those to it
abbrev pub avoiding_in : (n : ℕ) → Protected → (area column : List ℕ) → ℕ
avoiding_in n q area column = avoiding_to n q (λ x. get_or column x 0) area (λ x. get_or column x 0)

-- the routers of a set, and those that some first hop avoids the link on the way to
unfoldable pub gathered : (n : ℕ) → Protected → (area : List ℕ) → ℕ → List FirstHop → ℕ
gathered n q area set [] = set
gathered n q area set (f ∷ fs) = gathered n q area (bit_or set (avoided_from n q area f.router)) fs

-- for each of the first hops of a column of arcs, a set of its own: the routers that it avoids the link on the way to
abbrev pub SetsOf : (n : ℕ) → Protected → (area from to : List ℕ) → (count : ℕ) → (arcs sets : List ℕ) → Type 0
SetsOf n q area from to count arcs sets = (i : ℕ) → i < count → get_or sets i 0 ≡ avoided_from n q area (side_of (get_or arcs i 0) to from)

-- these sets are stored, and their union told; the costs have no part in it
pub record Reached (n : ℕ) (q : Protected) (area from to : List ℕ) (count : ℕ) (arcs sets : List ℕ) (union : ℕ) : Type 0 where
  pub each : SetsOf n q area from to count arcs sets
  pub all : (out back : List ℕ) → union ≡ gathered n q area 0 (hops_in from to out back count arcs)

unfoldable pub space_for : Space → (n : ℕ) → List Arc → Protected → (area : List ℕ) → ℕ
space_for p_space n hops q area = avoided_from n q area q.near
space_for extended_p n hops q area = gathered n q area 0 (first_hops q hops)
space_for q_space n hops q area = avoiding_in n q area (router_column n q.far area)

-- the space that a value names
abbrev pub space_named : Which → Space
space_named P = p_space
space_named ExtendedP = extended_p
space_named Q = q_space
