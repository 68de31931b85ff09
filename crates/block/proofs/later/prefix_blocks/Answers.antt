-- The quotient rounded up.
-- Assumes nothing.
use Rattle.std.proofs.Common.{arith}
use Rattle.lfa.specs.File.{prefix_blocks, ceil}
use Rattle.block.proofs.later.prefix_blocks.Goals as goal

pub returns : goal.returns
unfolding prefix_blocks ceil
returns c = omega arith
