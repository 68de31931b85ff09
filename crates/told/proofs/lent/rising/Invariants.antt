-- The bytes before the index hold the row, and `next` is its number at the index.
use Rattle.std.proofs.Common.{◌≡◌, ◌+◌, ◌*◌, ◌%◌, ◌<◌, ℕ, get_or}
use Rattle.told.proofs.lent.rising.Given as goal

abbrev pub invariant-loop-byte : goal.invariant-loop-byte
invariant-loop-byte l = record {
  filled : (k : ℕ) → k < l.byte-index → get_or l.bytes k 0 ≡ (l.first + k * l.step) % 256;
  next_is : l.next ≡ (l.first + l.byte-index * l.step) % 256;
}
