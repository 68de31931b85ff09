-- The rows of document 01's table that speak of blocks, rows 1 to 5: which row each fault of the judging functions is, and what a
-- file has to which none of them applies.
-- Assumes nothing.
use Rattle.std.specs.Prelude.{◌*◌, ◌≤◌, ◌≡◌, List, [], ◌∷◌, length, Result, Ok, Err, ⊤}
use Rattle.std.proofs.Math.Option.{Option, none, some}
use Rattle.lfa.specs.File.{Bytes, routers_of, links_of, prefixes_of, blocks_needed}
use Rattle.lfa.specs.Refusal.{FileRow, bad_length, bad_check, bad_head, bad_block_count, bad_block, Decided, decided}
use Rattle.block.specs.declared.BlockFault.{BlockFault}
use Rattle.block.specs.declared.BlockFault.TheVariants.{Length, Check, Head, BlockCount, Block}

-- the rows that speak of blocks, and those of them that come after the head's
unfoldable pub later_rows : List FileRow
later_rows = bad_block_count ∷ bad_block ∷ []

unfoldable pub block_rows : List FileRow
block_rows = bad_length ∷ bad_check ∷ bad_head ∷ later_rows

-- the row that a fault is, with the value that it returns
unfoldable pub fault_decided : BlockFault → Decided FileRow
fault_decided Length = decided bad_length 0
fault_decided (Check k) = decided bad_check k
fault_decided Head = decided bad_head 0
fault_decided (BlockCount k) = decided bad_block_count k
fault_decided (Block k) = decided bad_block k

-- the row that decides, or none where the blocks pass
unfoldable pub blocks_decided : Result ⊤ BlockFault → Option (Decided FileRow)
blocks_decided (Ok _) = none
blocks_decided (Err fault) = some (fault_decided fault)

-- the sizes of a file to which none of rows 1 to 5 applies
pub record Sized (b : Bytes) : Type 0 where
  pub whole : length b ≡ 512 * blocks_needed (links_of b) (prefixes_of b)
  pub some_routers : 1 ≤ routers_of b
  pub few_routers : routers_of b ≤ 64
  pub few_links : links_of b ≤ 128
  pub few_prefixes : prefixes_of b ≤ 128
