-- Fields of which not all bytes are there.
-- Assumes nothing.
use Prim.Native.Nat.{ℕ, ◌+◌, ◌*◌, ◌≤◌}
use mathlib.Core.Path.{◌≡◌, refl}
use native.Mathlib.Omega.{arith}
use lib.ListN.{get_or, length, get_or-eq_default}
use Rattle.lfa.specs.File.{Bytes, byte_at}
use Rattle.ospf.specs.Lsa.{be16, be32}

module _ (b : Bytes) (at : ℕ) where
  pub half_past : length b ≤ at → 0 ≡ be16 b at
  unfolding be16 byte_at
  half_past h = rw (get_or-eq_default b 0 {n = at} h, get_or-eq_default b 0 {n = at + 1} (omega arith)) refl

  pub half_last : length b ≤ at + 1 → 256 * get_or b at 0 + 0 ≡ be16 b at
  unfolding be16 byte_at
  half_last h = rw (get_or-eq_default b 0 {n = at + 1} h) refl

pub word_past : (b : Bytes) (at : ℕ) → length b ≤ at → 0 ≡ be32 b at
unfolding be32
word_past b at h = omega (arith, half_past b at h, half_past b (at + 2) (omega arith))

pub word_last : (b : Bytes) (at high : ℕ) → high ≡ be16 b at → length b ≤ at + 2 → 65536 * high + 0 ≡ be32 b at
unfolding be32
word_last b at high e h = omega (arith, half_past b (at + 2) h)
