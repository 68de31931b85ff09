-- A part that is handed over is an entry of the file, and no longer than 34 bytes.
-- Assumes nothing.
use Prim.Native.Nat.{ℕ, ◌+◌, ◌*◌, ◌/◌, ◌%◌, ◌≤◌}
use mathlib.Core.Bool.{Bool, true, false}
use mathlib.Core.Option.{Option, none, some}
use native.Mathlib.Omega.{arith}
use lib.Dec.{ltb}
use lib.ListN.{length, length-take}
use Rattle.lfa.specs.File.{Bytes, part_of, links_of, prefixes_of, link_entry, prefix_entry}
use Rattle.lfa.specs.Refusal.{FileRow, Decided, file_refusal}
use Rattle.lfa.specs.Answer.{part_if, link_part, prefix_part}

part_short : (b : Bytes) (start n : ℕ) → length (part_of b start n) ≤ n
unfolding part_of
part_short b start n = simp (length-take) (omega arith)

if_short : (refused : Option (Decided FileRow)) (inside : Bool) (part : Bytes) (n : ℕ) → length part ≤ n → length (part_if refused inside part) ≤ n
unfolding part_if
if_short (some r) inside part n h = omega arith
if_short none true part n h = h
if_short none false part n h = omega arith

pub link_part_short : (b : Bytes) (k : ℕ) → length (link_part b k) ≤ 34
unfolding link_part link_entry
link_part_short b k = if_short (file_refusal b) (ltb k (links_of b)) (link_entry b k) 34 (omega (arith, part_short b (512 * (1 + k / 84) + 4 + 6 * (k % 84)) 6))

pub prefix_part_short : (b : Bytes) (k : ℕ) → length (prefix_part b k) ≤ 34
unfolding prefix_part prefix_entry
prefix_part_short b k = if_short (file_refusal b) (ltb k (prefixes_of b)) (prefix_entry b k) 34 (part_short b _ 34)
