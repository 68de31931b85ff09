-- Laws of padding, and of columns.
-- Assumes nothing.
use Rattle.std.specs.Prelude.{ℕ, ◌-◌, ◌<◌, ◌≡◌, List, map, length, get_or, replicate}
use Rattle.std.proofs.Common.{◌∙◌, arith}
use Rattle.std.proofs.Math.ListN.{get_or-append}
use Rattle.lfa.specs.Lists.{below}
use Rattle.lfa.specs.FileOf.{pad}
use Rattle.lfa.proofs.Laws.Counting.{length_map_below, map_below_at}
use Rattle.metric.specs.Column.{column}

-- padding leaves the cells before it as they are
pub pad_at : (n : ℕ) (b : List ℕ) (i d : ℕ) → i < length b → get_or (pad n b) i d ≡ get_or b i d
unfolding pad
pad_at n b i d h = get_or-append b (replicate (n - length b) 0) d i h

-- the cell of router i
pub column_at : (n : ℕ) (f : ℕ → ℕ) (i : ℕ) → i < n → get_or (column n f) i 0 ≡ f i
unfolding column
column_at n f i h = pad_at 64 (map f (below n)) i 0 (omega (arith, length_map_below f n)) ∙ map_below_at f 0 n i h
