-- Point 13, "A drill we can repeat": the draws, the drill of a seed, and what a call that writes one owes.
-- Assumes nothing.
use Rattle.std.specs.Prelude.{ℕ, zero, suc, ◌+◌, ◌-◌, ◌*◌, ◌/◌, ◌%◌, ◌≤◌, ◌<◌, ◌≡◌, Bool, ◌&&◌, [], leb, get_or, length}
use Rattle.lfa.specs.Network.{link, Network}
use Rattle.lfa.specs.File.{Bytes}
use Rattle.lfa.specs.FileOf.{file_of}
use Rattle.lfa.specs.Ring.{ring_of}
use Rattle.lfa.specs.Writing.{Written}

-- ---- draws

-- "each draw replaces it by 1,664,525 times it plus 1,013,904,223, modulo 4,294,967,296"
unfoldable pub replaced : ℕ → ℕ
replaced seed = (1664525 * seed + 1013904223) % 4294967296

-- "Start with the 32-bit seed": what stands in its place after so many draws
unfoldable pub seed_after : (seed draws : ℕ) → ℕ
seed_after seed zero = seed
seed_after seed (suc k) = replaced (seed_after seed k)

-- "and uses the upper 16 bits"
unfoldable pub upper_bits : ℕ → ℕ
upper_bits seed = seed / 65536

-- draw k, counting from 0: the upper bits of what has replaced the seed by then
unfoldable pub draw : (seed k : ℕ) → ℕ
draw seed k = upper_bits (seed_after seed (suc k))

-- "each cost 1 plus a draw modulo 100"
unfoldable pub cost_drawn : (seed k : ℕ) → ℕ
cost_drawn seed k = 1 + draw seed k % 100

-- "a to b first, in link order": the draws of link i are 2 × i and 2 × i + 1
unfoldable pub out_drawn : (seed i : ℕ) → ℕ
out_drawn seed i = cost_drawn seed (2 * i)

unfoldable pub back_drawn : (seed i : ℕ) → ℕ
back_drawn seed i = cost_drawn seed (2 * i + 1)

-- ---- the meaning

-- router b of link i, and its costs
abbrev pub DrillLink : (seed : ℕ) → Network → (i b : ℕ) → Type 0
DrillLink seed net i b = get_or net.links i (link 0 0 0 0) ≡ link i b (out_drawn seed i) (back_drawn seed i)

-- "A drill of N routers, 3 to 64, is the ring of document 01, each cost 1 plus a draw modulo 100, a to b first, in link order, with no
-- prefixes."
pub record IsDrill (seed n : ℕ) (net : Network) : Type 0 where
  pub least : 3 ≤ n
  pub most : n ≤ 64
  pub routers : net.routers ≡ n
  pub links : length net.links ≡ n
  pub joined : (i : ℕ) → i + 1 < n → DrillLink seed net i (i + 1)
  pub closed : DrillLink seed net (n - 1) 0
  pub no_prefixes : net.prefixes ≡ []

-- ---- how it is computed

-- "3 to 64"
unfoldable pub is_drill_size : ℕ → Bool
is_drill_size n = leb 3 n && leb n 64

unfoldable pub drill_of : (seed n : ℕ) → Network
drill_of seed n = ring_of n (out_drawn seed) (back_drawn seed) []

-- ---- what is written

-- "0 and none outside that range or with a buffer shorter than the file"
unfoldable pub drill_fits : (seed n size : ℕ) → Bool
drill_fits seed n size = is_drill_size n && leb (length (file_of (drill_of seed n))) size

-- what a call that writes a drill owes: the number of bytes that it returns, and its buffer at exit
abbrev pub Drilled : (seed n count : ℕ) → (before after : Bytes) → Type 0
Drilled seed n count before after = Written (drill_fits seed n (length before)) (file_of (drill_of seed n)) count before after
