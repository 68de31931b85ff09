-- Parts of a file, as the code takes them: by where they start and where they end.
-- Assumes nothing.
use Rattle.std.specs.Prelude.{ℕ, ◌+◌, ◌-◌, ◌≤◌, ◌≡◌, length, take, drop}
use Rattle.std.proofs.Common.{arith, length-take, length-drop}
use Rattle.lfa.specs.File.{Bytes, part_of}

-- what a part from `start` on is, n bytes long
pub part_taken : (b : Bytes) (start n : ℕ) → start + n ≤ length b →
    (take (start + n - start) (drop start b) ≡ part_of b start n) × (length (take (start + n - start) (drop start b)) ≡ n)
unfolding part_of
part_taken b start n h =
    let e : start + n - start ≡ n = omega arith in
    (rw e, simp (length-take, length-drop) (omega arith))
