-- What is read for an arc, from the column of the direction in which it leads.
-- Assumes nothing.
use Prim.Native.Nat.{ℕ, ◌/◌, ◌%◌}
use mathlib.Core.Path.{◌≡◌, ◌∙◌}
use mathlib.Core.List.{List}
use lib.ListN.{get_or}
use borrow.Author.Tests.{eq-eqb, ne_eqb}
use Rattle.arcs.specs.Arcs.{side_of}

pub reads_there : {w k : ℕ} (a : ℕ) (there back : List ℕ) → k ≡ a / 2 → w ≡ get_or there k 0 → a % 2 ≡ 0 → w ≡ side_of a there back
unfolding side_of
reads_there a there back e f h = f ∙ rw (e, eq-eqb (a % 2) 0 h, side_of)

pub reads_back : {w k : ℕ} (a : ℕ) (there back : List ℕ) → k ≡ a / 2 → w ≡ get_or back k 0 → (a % 2 ≡ 0 → ⊥) → w ≡ side_of a there back
unfolding side_of
reads_back a there back e f h = f ∙ rw (e, ne_eqb (a % 2) 0 h, side_of)
