-- Rows 1 to 5 in order: one law for each return of the code that judges a file's blocks.
-- Assumes nothing.
use Prim.Native.Nat.{ℕ, ◌-◌, ◌/◌}
use mathlib.Core.Path.{◌≡◌, sym, ap, ◌∙◌}
use mathlib.Core.Bool.{true, false}
use mathlib.Core.Option.{none, some}
use mathlib.Core.List.{[], ◌∷◌}
use lib.ListN.{length}
use borrow.Author.Tests.{eq-eqb, ne_eqb}
use Rattle.lfa.specs.Lists.{first_failing}
use Rattle.lfa.specs.File.{Bytes, blocks_in, links_of, prefixes_of, blocks_needed}
use Rattle.lfa.specs.File.{length_good, check_good, head_good, block_count_good, block_good}
use Rattle.lfa.specs.Refusal.{file_returned, bad_length, bad_check, bad_head, bad_block_count, bad_block, decided, first_row}
use Rattle.lfa.proofs.Laws.FirstFailing.{unless_good}
use Rattle.block.specs.Judged.{later_rows, block_rows}
use Rattle.block.specs.Laws.Rows.{first_here, first_next, unless_bad}

-- ---- rows 4 and 5

module _ (b : Bytes) (n links prefixes needed : ℕ) (all : n ≡ blocks_in b) (l : links ≡ links_of b) (p : prefixes ≡ prefixes_of b) (e : needed ≡ blocks_needed links prefixes) where
  follows : needed ≡ blocks_needed (links_of b) (prefixes_of b)
  follows = rw (l, p) at e

  pub count_decides : (n ≡ needed → ⊥) → some (decided bad_block_count needed) ≡ first_row (file_returned b) later_rows
  unfolding file_returned later_rows block_count_good
  count_decides h =
      let bad : block_count_good b ≡ false = ne_eqb _ _ (λ f. h (all ∙ f ∙ sym follows)) in
      first_here (file_returned b) bad_block_count _ needed (unless_bad _ _ bad ∙ ap some (sym follows))

  module _ (h : n ≡ needed) where
    count_passed : first_row (file_returned b) (bad_block ∷ []) ≡ first_row (file_returned b) later_rows
    unfolding file_returned later_rows block_count_good
    count_passed = first_next (file_returned b) bad_block_count _ (unless_good _ _ (eq-eqb _ _ (sym all ∙ h ∙ follows)))

    pub block_decides : (bad : ℕ) → some bad ≡ first_failing (block_good b) 1 (n - 1) → some (decided bad_block bad) ≡ first_row (file_returned b) later_rows
    unfolding file_returned
    block_decides bad found = first_here (file_returned b) bad_block [] bad (rw all at (sym found)) ∙ count_passed

    pub later_passed : none ≡ first_failing (block_good b) 1 (n - 1) → none ≡ first_row (file_returned b) later_rows
    unfolding file_returned first_row
    later_passed found = first_next (file_returned b) bad_block [] (rw all at (sym found)) ∙ count_passed

-- ---- rows 1 to 3

module _ (b : Bytes) where
  pub length_decides : length_good b ≡ false → some (decided bad_length 0) ≡ first_row (file_returned b) block_rows
  unfolding file_returned block_rows
  length_decides e = first_here (file_returned b) bad_length _ 0 (unless_bad _ _ e)

  module _ (e : length_good b ≡ true) where
    length_passed : first_row (file_returned b) (bad_check ∷ bad_head ∷ later_rows) ≡ first_row (file_returned b) block_rows
    unfolding file_returned block_rows
    length_passed = first_next (file_returned b) bad_length _ (unless_good _ _ e)

    pub check_decides : (bad : ℕ) → some bad ≡ first_failing (check_good b) 0 (length b / 512) → some (decided bad_check bad) ≡ first_row (file_returned b) block_rows
    unfolding file_returned blocks_in
    check_decides bad found = first_here (file_returned b) bad_check _ bad (sym found) ∙ length_passed

    module _ (found : none ≡ first_failing (check_good b) 0 (length b / 512)) where
      check_passed : first_row (file_returned b) (bad_head ∷ later_rows) ≡ first_row (file_returned b) block_rows
      unfolding file_returned blocks_in
      check_passed = first_next (file_returned b) bad_check _ (sym found) ∙ length_passed

      pub head_decides : head_good b ≡ false → some (decided bad_head 0) ≡ first_row (file_returned b) block_rows
      unfolding file_returned
      head_decides g = first_here (file_returned b) bad_head _ 0 (unless_bad _ _ g) ∙ check_passed

      pub head_passed : head_good b ≡ true → first_row (file_returned b) later_rows ≡ first_row (file_returned b) block_rows
      unfolding file_returned
      head_passed g = first_next (file_returned b) bad_head _ (unless_good _ _ g) ∙ check_passed
