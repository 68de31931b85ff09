-- The cells while they are filled: n rows of n cells in one list. A cell holds the least of the limit and the cost that it stands for.
-- Assumes nothing.
use Rattle.std.specs.Prelude.{ℕ, ◌+◌, ◌*◌, ◌≤◌, ◌<◌, min, ◌≡◌, true, false, ◌⊎◌, ltb, length, get_or}
use mathlib.Core.List.{List, map, Memᴰ}
use Rattle.lfa.specs.Lists.{below}
use Rattle.lfa.specs.Network.{Arc, arc}
use Rattle.lfa.specs.Distance.{unreachable, least, hop_cost}
use Rattle.metric.specs.Area.{area_cell}

-- more than any finite distance, and twice the limit is a 32-bit number
abbrev pub limit : ℕ
limit = 1073741824

-- the cells hold f
pub record Cells (n : ℕ) (f : ℕ → ℕ → ℕ) (cells : List ℕ) : Type 0 where
  pub long : length cells ≡ n * n
  pub cell : (i j : ℕ) → i < n → j < n → area_cell n cells i j ≡ f i j

-- no cell exceeds the limit
pub record Limited (n : ℕ) (cells : List ℕ) : Type 0 where
  pub few : n ≤ 64
  pub long : length cells ≡ n * n
  pub small : (i j : ℕ) → i < n → j < n → area_cell n cells i j ≤ limit

-- the first m numbers are those of f, and the others are as they were
pub record Stored (m : ℕ) (f : ℕ → ℕ) (before after : List ℕ) : Type 0 where
  pub long : length after ≡ length before
  pub done : (j : ℕ) → j < m → get_or after j 0 ≡ f j
  pub rest : (j : ℕ) → m ≤ j → get_or after j 0 ≡ get_or before j 0

-- ---- the costs of arcs

-- the cost of the cheapest arc from i to j
unfoldable pub cheapest : List Arc → ℕ → ℕ → ℕ
cheapest hops i j = min limit (least (map (hop_cost i j) hops))

-- a self-loop, at no cost, at each of the first x routers
unfoldable pub self_loops : ℕ → List Arc
self_loops x = map (λ r. arc r r 0 0) (below x)

-- the cells are lowered to the cost of an arc from a to b
pub record Lowered (n a b c : ℕ) (before after : List ℕ) : Type 0 where
  pub long : length after ≡ n * n
  pub cell : (i j : ℕ) → i < n → j < n → area_cell n after i j ≡ min (area_cell n before i j) (hop_cost i j (arc a b c 0))

-- each arc costs a 16-bit number
pub record CostsCapped (hops : List Arc) : Type 0 where
  pub cost : {x z c l : ℕ} → Memᴰ (arc x z c l) hops → c ≤ 65535

-- ---- rows that are lowered by another

-- the numbers are the cells of row k
pub record RowOf (n k : ℕ) (cells row : List ℕ) : Type 0 where
  pub long : length row ≡ n
  pub same : (j : ℕ) → j < n → get_or row j 0 ≡ area_cell n cells k j

-- the rows are as long as each other, and no number that lowers or is lowered exceeds the limit
pub record RowReady (d : ℕ) (by row : List ℕ) : Type 0 where
  pub long : length by ≡ length row
  pub small_by : (j : ℕ) → j < length row → get_or by j 0 ≤ limit
  pub small : (j : ℕ) → j < length row → get_or row j 0 ≤ limit

-- the rows from `first` up to `last` are lowered to what each has as a weight plus row k, and the other rows are as they were
pub record RowsLowered (n k first last : ℕ) (weight : ℕ → ℕ) (before after : List ℕ) : Type 0 where
  pub long : length after ≡ n * n
  pub low : (i j : ℕ) → first ≤ i → i < last → i < n → j < n → area_cell n after i j ≡ min (area_cell n before i j) (weight i + area_cell n before k j)
  pub rest : (i j : ℕ) → (i < first) ⊎ (last ≤ i) → i < n → j < n → area_cell n after i j ≡ area_cell n before i j

-- ---- elimination and substitution

-- no detour over a third router is shorter
pub record Triangular (n : ℕ) (d : ℕ → ℕ → ℕ) : Type 0 where
  pub detour : (i k j : ℕ) → i < n → k < n → j < n → d i j ≤ d i k + d k j

-- no cell is below d
abbrev pub Above : ℕ → (ℕ → ℕ → ℕ) → List ℕ → Type 0
Above n d cells = (i j : ℕ) → i < n → j < n → d i j ≤ area_cell n cells i j

-- no cell rises, and none falls below a table in which no detour is shorter
pub record Fallen (n : ℕ) (before after : List ℕ) : Type 0 where
  pub long : length after ≡ n * n
  pub lower : (i j : ℕ) → i < n → j < n → area_cell n after i j ≤ area_cell n before i j
  pub kept : (d : ℕ → ℕ → ℕ) → Triangular n d → Above n d before → Above n d after

-- the routers from m on are eliminated: from an earlier router no detour over one of them is shorter
pub record Eliminated (n m : ℕ) (before after : List ℕ) : Type 0 where
  pub fallen : Fallen n before after
  pub over : (i k j : ℕ) → i < k → m ≤ k → k < n → j < n → area_cell n after i j ≤ area_cell n after i k + area_cell n after k j

-- the rows of the first m routers are substituted: from a later router no detour over one of them is shorter, the way to it being as before
pub record Substituted (n m : ℕ) (before after : List ℕ) : Type 0 where
  pub fallen : Fallen n before after
  pub over : (i k j : ℕ) → k < i → k < m → i < n → j < n → area_cell n after i j ≤ area_cell n before i k + area_cell n after k j

-- what a cell stands for at the end
unfoldable pub finished : ℕ → ℕ
finished v = elim (ltb v limit) [ true ↦ v | false ↦ unreachable ]
