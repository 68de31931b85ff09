-- The four 16-bit lanes of a number of eight bytes, the least first: each division by 65,536 moves on to the next.
-- Assumes nothing.
use Rattle.std.specs.Prelude.{ℕ, ◌+◌, ◌*◌, ◌/◌, ◌%◌}

-- the sum of the four
abbrev pub lanes_of : ℕ → ℕ
lanes_of w = w % 65536 + w / 65536 % 65536 + w / 65536 / 65536 % 65536 + w / 65536 / 65536 / 65536

-- the second and the fourth, in their places
abbrev pub odd_lanes : ℕ → ℕ
odd_lanes w = 65536 * (w / 65536 % 65536) + 281474976710656 * (w / 65536 / 65536 / 65536)
