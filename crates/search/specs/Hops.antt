-- The protected link and the first hops, as columns hold them.
-- Assumes nothing.
use Rattle.std.specs.Prelude.{ℕ, ◌+◌, ◌*◌, ◌≤◌, ◌≡◌, Bool, List, [], ◌++◌, map, length, get_or}
use Rattle.lfa.specs.Lists.{below, keep_if, select}
use Rattle.lfa.specs.Network.{link}
use Rattle.lfa.specs.Space.{under_maintenance, Protected, protected_by, FirstHop}
use Rattle.arcs.specs.Arcs.{leaves_near, hop_by}

-- link l of the columns, seen from an end
unfoldable pub protected_in : (from to out back : List ℕ) → (l e : ℕ) → Protected
protected_in from to out back l e = protected_by under_maintenance l e (link (get_or from l 0) (get_or to l 0) (get_or out l 0) (get_or back l 0))

-- the first `count` of a column of arcs
unfoldable pub arcs_listed : ℕ → (arcs : List ℕ) → List ℕ
arcs_listed count arcs = map (λ i. get_or arcs i 0) (below count)

-- an arc is put after the first `count` of a column, where it is kept; `all` are listed then
pub record Put (kept : Bool) (a count : ℕ) (arcs : List ℕ) (all : ℕ) (after : List ℕ) : Type 0 where
  pub few : all ≤ count + 1
  pub long : length after ≡ length arcs
  pub listed : arcs_listed all after ≡ arcs_listed count arcs ++ keep_if kept a []

-- the column holds the first hops among the arcs of the links, in file order
pub record Listed (q : Protected) (from to out back : List ℕ) (links count : ℕ) (arcs : List ℕ) : Type 0 where
  pub few : count ≤ 256
  pub all : arcs_listed count arcs ≡ select (leaves_near q from to out back) (below (2 * links))

-- the first hops that a column of arcs holds
unfoldable pub hops_in : (from to out back : List ℕ) → ℕ → (arcs : List ℕ) → List FirstHop
hops_in from to out back count arcs = map (λ i. hop_by from to out back (get_or arcs i 0)) (below count)
