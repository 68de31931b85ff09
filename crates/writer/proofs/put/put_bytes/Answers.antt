-- A copy at the start is a put at 0.
-- Assumes nothing.
use Rattle.std.proofs.Common.{◌≡◌, ◌+◌, ◌++◌, length, drop, arith, rules}
use Rattle.lfa.specs.File.{Bytes}
use Rattle.writer.specs.Put.{put_at}
use Rattle.writer.proofs.put.put_bytes.Goals as goal

copied : (bytes part buffer : Bytes) → part ≡ bytes → part ++ drop (length bytes) buffer ≡ put_at 0 bytes buffer
unfolding put_at
copied bytes part buffer e = let z : 0 + length bytes ≡ length bytes = omega arith in rw (e, z)

pub returns : goal.returns
returns c = copied _ _ _ (search rules)
