-- What `load` answers is document 01's answer: the rows of a file are those of blocks, then those of entries; for a file that a row
-- turns away its refusal and the empty network, for any other acceptance and the network that the file holds.
-- Assumes nothing.
use Prim.Native.Nat.{ℕ}
use mathlib.Core.Path.{◌≡◌, refl, sym, ◌∙◌}
use mathlib.Core.Option.{Option, none, some}
use Rattle.std.specs.Prelude.{Result, Ok, Err}
use mathlib.Core.List.{◌++◌}
use native.Mathlib.Omega.{arith}
use Rattle.lfa.specs.File.{Bytes, network_of}
use Rattle.lfa.specs.Question.{loading}
use Rattle.lfa.specs.Refusal.{file_returned, file_refusal, FileRow, Decided, first_row, file_rows}
use Rattle.lfa.specs.Answer.{answer_to, network_loaded}
use Rattle.lfa.proofs.Laws.Turned.{load_answer, load_answer_lem}
use Rattle.block.specs.Judged.{later_rows, block_rows, Sized}
use Rattle.block.specs.Laws.Rows.{decided_stays, undecided_next}
use Rattle.block.specs.Laws.Sized.{blocks_passed}
use Rattle.network_file.specs.declared.Fault.{Fault}
use Rattle.network_file.specs.Entry.{link_rows, prefix_rows, entry_rows}
use Rattle.network_file.specs.Load.{fault_of, answer_of, verdict_decided}

-- ---- the rows of a file

-- the rows of the file are those of blocks, then those of entries
all_rows_lem : (b : Bytes) → file_refusal b ≡ first_row (file_returned b) (block_rows ++ entry_rows)
unfolding file_refusal file_rows block_rows later_rows entry_rows link_rows prefix_rows
all_rows_lem b = refl

-- What rows 1 to 5 decide is decided ..
pub blocks_refuse : (b : Bytes) (d : Decided FileRow) → first_row (file_returned b) block_rows ≡ some d → file_refusal b ≡ some d
blocks_refuse b d e = all_rows_lem b ∙ decided_stays (file_returned b) block_rows entry_rows d e

-- .. and where none of them applies, rows 6 to 9 decide.
pub blocks_pass : (b : Bytes) → first_row (file_returned b) block_rows ≡ none → file_refusal b ≡ first_row (file_returned b) entry_rows
blocks_pass b e = all_rows_lem b ∙ undecided_next (file_returned b) block_rows entry_rows e

-- Where the whole file passes, so do its blocks.
pub blocks_none : (b : Bytes) → file_refusal b ≡ none → first_row (file_returned b) block_rows ≡ none
blocks_none b e = go (first_row (file_returned b) block_rows) refl
  where
    go : (o : Option (Decided FileRow)) → first_row (file_returned b) block_rows ≡ o → first_row (file_returned b) block_rows ≡ none
    go none p = p
    go (some d) p = absurd (let z : ◌≡◌ {A = Option (Decided FileRow)} none (some d) = sym e ∙ blocks_refuse b d p in let y : ◌≡◌ {A = ℕ} 0 1 = cc in omega arith)

-- the same for rows 6 and 7, and 8 and 9
module _ (b : Bytes) where
  pub links_refuse : (d : Decided FileRow) → first_row (file_returned b) link_rows ≡ some d → first_row (file_returned b) entry_rows ≡ some d
  unfolding entry_rows
  links_refuse d e = decided_stays (file_returned b) link_rows prefix_rows d e

  pub links_pass : first_row (file_returned b) link_rows ≡ none → first_row (file_returned b) entry_rows ≡ first_row (file_returned b) prefix_rows
  unfolding entry_rows
  links_pass e = undecided_next (file_returned b) link_rows prefix_rows e

-- ---- the verdict

-- a verdict that names the row that decides is document 01's answer
pub verdict_answers : {T : Type 0} (b : Bytes) (v : Result T Fault) → verdict_decided v ≡ file_refusal b → answer_of v ≡ answer_to (loading b)
unfolding verdict_decided answer_of fault_of load_answer
verdict_answers b (Ok held) e = sym (load_answer_lem b ∙ rw (← e))
verdict_answers b (Err f) e = sym (load_answer_lem b ∙ rw (← e))

pub accepted_answers : {T : Type 0} (b : Bytes) (held : T) → none ≡ file_refusal b → answer_of (Ok held) ≡ answer_to (loading b)
unfolding verdict_decided
accepted_answers b held e = verdict_answers b (Ok held) e

-- A file that no row turns away: its network is what `load` hands over, rows 1 to 5 have found its sizes, and rows 8 and 9 pass.
module _ (b : Bytes) (e : none ≡ file_refusal b) where
  pub accepted_network : network_of b ≡ network_loaded b
  unfolding network_loaded
  accepted_network = rw (network_loaded, sym e)

  pub accepted_sized : Sized b
  accepted_sized = blocks_passed b (blocks_none b (sym e))

  pub accepted_prefixes : first_row (file_returned b) prefix_rows ≡ none
  accepted_prefixes = go (first_row (file_returned b) link_rows) refl
    where
      entries : first_row (file_returned b) entry_rows ≡ none
      entries = sym (blocks_pass b (blocks_none b (sym e))) ∙ sym e

      go : (o : Option (Decided FileRow)) → first_row (file_returned b) link_rows ≡ o → first_row (file_returned b) prefix_rows ≡ none
      go none p = sym (links_pass b p) ∙ entries
      go (some d) p = let q : ◌≡◌ {A = Option (Decided FileRow)} (some d) none = sym (links_refuse b d p) ∙ entries in cc
