-- The entries so far have room.
-- Assumes nothing.
use Rattle.std.proofs.Common.{◌≡◌, ℕ, ◌<◌, leb, true, get_or}
use Rattle.writer.proofs.counts.entries_fit.Given as goal

abbrev pub invariant-loop-count : goal.invariant-loop-count
invariant-loop-count l = (k : ℕ) → k < l.count-index → leb (get_or l.attached k 0) 8 ≡ true
