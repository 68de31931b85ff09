-- All bytes are zero exactly when those before the index are, which `zero` tells, and those from it on.
-- Assumes nothing.
use Rattle.std.proofs.Common.{◌≡◌, ◌&&◌, drop}
use Rattle.lfa.specs.File.{all_zero}
use Rattle.field.proofs.all_zero.Given as goal

abbrev pub invariant-loop-byte : goal.invariant-loop-byte
invariant-loop-byte l = all_zero l.s ≡ (l.zero && all_zero (drop l.byte-index l.s))
