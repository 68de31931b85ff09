-- What it means that none of rows 1 to 9 applies to a file.
-- Assumes nothing.
use Rattle.std.specs.Prelude.{ℕ, ◌≤◌, ◌<◌, ◌≡◌, true, get_or}
use Rattle.lfa.specs.File.{Bytes, blocks_in, links_of, prefixes_of, length_good, check_good, head_good, block_count_good, block_good, link_good, link_new, prefix_good, routers_new}

-- every byte is below 256
pub record AreBytes (b : Bytes) : Type 0 where
  pub small : (i : ℕ) → get_or b i 0 < 256

-- each test of rows 1 to 9 passes, at each block, link or prefix
pub record Passes (b : Bytes) : Type 0 where
  pub row1 : length_good b ≡ true
  pub row2 : (i : ℕ) → i < blocks_in b → check_good b i ≡ true
  pub row3 : head_good b ≡ true
  pub row4 : block_count_good b ≡ true
  pub row5 : (i : ℕ) → 1 ≤ i → i < blocks_in b → block_good b i ≡ true
  pub row6 : (k : ℕ) → k < links_of b → link_good b k ≡ true
  pub row7 : (k : ℕ) → k < links_of b → link_new b k ≡ true
  pub row8 : (k : ℕ) → k < prefixes_of b → prefix_good b k ≡ true
  pub row9 : (k : ℕ) → k < prefixes_of b → routers_new b k ≡ true
