-- The test of row 3, in the order in which the code makes it.
-- Assumes nothing.
use mathlib.Core.Path.{◌≡◌}
use mathlib.Core.Bool.{◌&&◌}
use lib.Dec.{eqb}
use Rattle.lfa.specs.File.{Bytes, byte_at, part_of, all_zero, head_good}
use Rattle.lfa.proofs.Laws.Test.{and_left, and_right, and_make, same_test}
use Rattle.block.specs.Head.{label_good, counts_good}

-- The label, byte 5, the three counts, the rest: both sides ask the same nine tests, so that either passes where the other does.
pub head_parts : (b : Bytes) → head_good b ≡ (label_good b 0 1 0 && eqb (byte_at b 5) 0 && counts_good b && all_zero (part_of b 10 500))
unfolding head_good label_good counts_good
head_parts b = same_test _ _ (λ e. search (and_left, and_right, and_make) depth 14) (λ e. search (and_left, and_right, and_make) depth 14)
