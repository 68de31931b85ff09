-- The sum is that of the three words left over and of the first i times four words of each part, modulo 65,536.
-- Assumes nothing.
use Rattle.std.proofs.Common.{◌≡◌, ◌+◌, ◌%◌, drop}
use Rattle.lfa.specs.File.{sum_words}
use Rattle.block_check.proofs.CheckLaws.{taken}
use Rattle.block_check.proofs.whole_check.Given as goal

abbrev pub invariant-loop-i : goal.invariant-loop-i
invariant-loop-i l = l.sum ≡ (sum_words 3 (drop 504 l.block) + taken l.i l.block) % 65536
