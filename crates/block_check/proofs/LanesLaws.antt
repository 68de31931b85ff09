-- The lanes of a number of eight bytes, from those of its halves.
-- Assumes nothing.
use Rattle.std.proofs.Common.{◌≡◌, ℕ, ◌+◌, ◌*◌, ◌/◌, ◌%◌, ◌≤◌, arith}
use Rattle.block_check.specs.Lanes.{lanes_of}

-- a lane below another number, and the rest of it
module _ (lane rest w : ℕ) (h : lane ≤ 65535) (e : w ≡ lane + 65536 * rest) where
  first_lane : w % 65536 ≡ lane
  first_lane = omega arith

  next_lanes : w / 65536 ≡ rest
  next_lanes = omega arith

-- a number of two halves has the lanes of both
pub lanes_of_halves : (low high w : ℕ) → low ≤ 4294967295 → w ≡ low + 4294967296 * high → lanes_of w ≡ low % 65536 + low / 65536 + (high % 65536 + high / 65536)
lanes_of_halves low high w h e =
    let one : w % 65536 ≡ low % 65536 = first_lane (low % 65536) (low / 65536 + 65536 * high) w (omega arith) (omega arith) in
    let on : w / 65536 ≡ low / 65536 + 65536 * high = next_lanes (low % 65536) (low / 65536 + 65536 * high) w (omega arith) (omega arith) in
    let two : w / 65536 % 65536 ≡ low / 65536 = first_lane (low / 65536) high (w / 65536) (omega arith) on in
    let half : w / 65536 / 65536 ≡ high = next_lanes (low / 65536) high (w / 65536) (omega arith) on in
    rw (one, two, half) (omega arith)
