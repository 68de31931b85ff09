-- The sizes of a file: what a good length tells, and what a file has to which none of rows 1 to 5 applies: its length follows from
-- its links and prefixes.
-- Assumes nothing.
use Rattle.std.specs.Prelude.{ℕ, ◌+◌, ◌*◌, ◌%◌, ◌≤◌, ◌<◌, ◌≡◌, true, false, eqb, get_or, length}
use Rattle.std.proofs.Math.Option.{none}
use mathlib.Core.List.{Memᴰ}
use Rattle.std.proofs.Common.{arith, leb-true, eqb-true}
use Rattle.std.proofs.lemmas.Bool.{eqb-false, not-true}
use Rattle.lfa.specs.File.{Bytes, blocks_in, links_of, prefixes_of, link_blocks, prefix_blocks, blocks_needed}
use Rattle.lfa.specs.File.{length_good}
use Rattle.lfa.specs.Refusal.{file_returned, FileRow, bad_length, bad_head, bad_block_count, first_row}
use Rattle.lfa.proofs.Laws.Test.{and_left, and_right}
use Rattle.lfa.proofs.Laws.List.{get_d_in}
use Rattle.lfa.proofs.Laws.FirstFailing.{unless_none}
use Rattle.lfa.proofs.Laws.Rows.{none_decides}
use Rattle.lfa.proofs.Laws.File.RowFacts.{HeadFacts, head_facts, count_fact}
use Rattle.block.specs.Judged.{later_rows, block_rows, Sized}

-- ---- a file of a good length

-- from 1 to 13 whole blocks
pub record Blocked (b : Bytes) : Type 0 where
  pub some_blocks : 1 ≤ blocks_in b
  pub few_blocks : blocks_in b ≤ 13
  pub whole_blocks : 512 * blocks_in b ≡ length b

pub good_length : (b : Bytes) → length_good b ≡ true → Blocked b
unfolding length_good blocks_in
good_length b e = go (search (leb-true, eqb-true, not-true, and_left, and_right) depth 12)
  where
    go : (eqb (length b) 0 ≡ false) × (length b % 512 ≡ 0) × (length b ≤ 6656) → Blocked b
    go f =
        let not-empty : length b ≡ 0 → ⊥ = eqb-false (length b) 0 f.0 in
        record { some_blocks = omega arith; few_blocks = omega arith; whole_blocks = omega arith }

-- ---- what a file has to which none of rows 1 to 5 applies

-- row number k of these, counting from 0
row_in : (k : ℕ) → k < 5 → Memᴰ (get_or block_rows k bad_length) block_rows
unfolding block_rows later_rows
row_in k h = get_d_in block_rows k bad_length h

-- Row 1 gives whole blocks, row 3 the limits, row 4 that the blocks are those needed.
pub blocks_passed : (b : Bytes) → first_row (file_returned b) block_rows ≡ none → Sized b
unfolding file_returned block_rows later_rows blocks_needed
blocks_passed b e = go (head_facts b (unless_none _ _ (passes bad_head (row_in 2 (omega arith)))))
  where
    passes : (r : FileRow) → Memᴰ r block_rows → file_returned b r ≡ none
    passes = none_decides (file_returned b) block_rows e

    go : HeadFacts b → Sized b
    go f =
        let l : Blocked b = good_length b (unless_none _ _ (passes bad_length (row_in 0 (omega arith)))) in
        let n : blocks_in b ≡ 1 + link_blocks (links_of b) + prefix_blocks (prefixes_of b) = count_fact b (unless_none _ _ (passes bad_block_count (row_in 3 (omega arith)))) in
        record {
          whole = omega (arith, l.whole_blocks);
          some_routers = f.some_routers;
          few_routers = f.few_routers;
          few_links = f.few_links;
          few_prefixes = f.few_prefixes;
        }
