-- The first j blocks are put.
-- Assumes nothing.
use Rattle.writer.specs.Block.{prefix_block_in}
use Rattle.writer.proofs.FileLaws.{Grown}
use Rattle.writer.proofs.file.put_prefix_blocks.Given as goal

abbrev pub invariant-loop-j : goal.invariant-loop-j
invariant-loop-j l = Grown l.ahead l.fn.file (prefix_block_in l.network.attached l.network.at l.network.own l.network.links.prefixes l.ahead) l.j l.file
