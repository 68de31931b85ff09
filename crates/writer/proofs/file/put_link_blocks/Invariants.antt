-- The first j blocks are put.
-- Assumes nothing.
use Rattle.writer.specs.Block.{link_block_in}
use Rattle.writer.proofs.FileLaws.{Grown}
use Rattle.writer.proofs.file.put_link_blocks.Given as goal

abbrev pub invariant-loop-j : goal.invariant-loop-j
invariant-loop-j l = Grown 1 l.fn.file (link_block_in l.links.from l.links.to l.links.out l.links.back l.links.links) l.j l.file
