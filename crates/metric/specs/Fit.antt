-- Whether numbers are those of a network: the tests, and what they say where they pass.
-- Assumes nothing.
use Rattle.std.specs.Prelude.{ℕ, ◌+◌, ◌*◌, ◌≤◌, ◌<◌, Bool, ◌&&◌, List, ltb, leb, get_or}
use Rattle.lfa.specs.Lists.{every_below}

-- ---- the tests

-- at most 64 routers, and a cell for each two of them
unfoldable pub cells_fit : (n cells : ℕ) → Bool
cells_fit n cells = leb n 64 && leb (n * n) cells

-- at most 128 links, and each joins routers: link k joins routers from[k] and to[k]
abbrev pub joins : (routers : ℕ) → (from to : List ℕ) → ℕ → Bool
joins routers from to k = ltb (get_or from k 0) routers && ltb (get_or to k 0) routers

unfoldable pub links_fit : (routers links : ℕ) → (from to : List ℕ) → Bool
links_fit routers links from to = leb links 128 && every_below (joins routers from to) links

-- the slots in use are among the 1024, and hold routers
abbrev pub attaches : (n slot : ℕ) → (routers : List ℕ) → ℕ → Bool
attaches n slot routers s = ltb (get_or routers (slot + s) 0) n

unfoldable pub slots_fit : (n slot count : ℕ) → (routers : List ℕ) → Bool
slots_fit n slot count routers = leb (slot + count) 1024 && every_below (attaches n slot routers) count

-- ---- what they say

-- at most 64 routers and 128 links, and each link joins routers
pub record ColumnsWithin (routers links : ℕ) (from to : List ℕ) : Type 0 where
  pub few_routers : routers ≤ 64
  pub few_links : links ≤ 128
  pub from_in : (k : ℕ) → k < links → get_or from k 0 < routers
  pub to_in : (k : ℕ) → k < links → get_or to k 0 < routers

-- the slots in use hold routers below n
pub record SlotsWithin (n slot count : ℕ) (routers : List ℕ) : Type 0 where
  pub few : slot + count ≤ 1024
  pub router_in : (s : ℕ) → s < count → get_or routers (slot + s) 0 < n
