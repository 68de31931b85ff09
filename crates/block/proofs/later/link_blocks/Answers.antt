-- The quotient rounded up.
-- Assumes nothing.
use Rattle.std.proofs.Common.{arith}
use Rattle.lfa.specs.File.{link_blocks, ceil}
use Rattle.block.proofs.later.link_blocks.Goals as goal

pub returns : goal.returns
unfolding link_blocks ceil
returns c = omega arith
