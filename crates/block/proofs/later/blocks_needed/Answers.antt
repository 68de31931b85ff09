-- The sum of both kinds of blocks, with the head.
-- Assumes nothing.
use Rattle.std.proofs.Common.{arith}
use Rattle.lfa.specs.File.{link_blocks, prefix_blocks, blocks_needed, ceil}
use Rattle.block.proofs.later.blocks_needed.Goals as goal

pub overflow_add-result : goal.overflow_add-result
unfolding link_blocks ceil
overflow_add-result c = omega arith

pub overflow_add-result-2 : goal.overflow_add-result-2
unfolding link_blocks prefix_blocks ceil
overflow_add-result-2 c = omega arith

pub returns : goal.returns
unfolding blocks_needed
returns c = omega arith
