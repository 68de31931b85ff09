-- What is left of the total, but no more than a block holds.
-- Assumes nothing.
use Rattle.std.proofs.Common.{arith}
use Rattle.lfa.specs.File.{entries_in}
use Rattle.block.proofs.later.entries_in.Goals as goal

pub returns : goal.returns
unfolding entries_in
returns c = omega arith

pub returns-then-total-before : goal.returns-then-total-before
unfolding entries_in
returns-then-total-before c = omega arith
