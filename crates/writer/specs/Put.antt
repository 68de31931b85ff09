-- Bytes put into a buffer at a place.
-- Assumes nothing.
use Rattle.std.specs.Prelude.{ℕ, ◌+◌, ◌++◌, length, take, drop}
use Rattle.lfa.specs.File.{Bytes}

-- the buffer with these bytes from `at` on, and the rest as it was
unfoldable pub put_at : ℕ → Bytes → Bytes → Bytes
put_at at bytes buffer = take at buffer ++ (bytes ++ drop (at + length bytes) buffer)
