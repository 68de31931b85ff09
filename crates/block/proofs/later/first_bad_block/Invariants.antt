-- Every block from 1 on and before block i is as the head wants it.
-- Assumes nothing.
use Rattle.std.proofs.Common.{◌-◌}
use Rattle.lfa.specs.File.{block_good}
use Rattle.block.specs.Laws.First.{Passed}
use Rattle.block.proofs.later.first_bad_block.Given as goal

abbrev pub invariant-loop-i : goal.invariant-loop-i
invariant-loop-i l = Passed (block_good l.file) 1 (l.blocks - 1) l.i
