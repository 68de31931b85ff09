-- The sum is that of the first i words, modulo 65,536.
-- Assumes nothing.
use Rattle.std.proofs.Common.{◌≡◌, ◌%◌}
use Rattle.lfa.specs.File.{sum_words}
use Rattle.check_forms.proofs.word_by_word.Given as goal

abbrev pub invariant-loop-i : goal.invariant-loop-i
invariant-loop-i l = l.sum ≡ sum_words l.i l.block % 65536
