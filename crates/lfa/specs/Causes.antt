-- "Cause" and "Returned" of the table of refusals, in words: when each row applies to a question, and the value that it then returns.
-- Assumes nothing.
use Rattle.std.specs.Prelude.{ℕ, ◌-◌, ◌*◌, ◌%◌, ◌≤◌, ◌<◌, ◌≡◌, ◌⊎◌, false, length}
use Rattle.std.proofs.Math.Option.{some}
use Rattle.lfa.specs.Lists.{FirstFails}
use Rattle.lfa.specs.File.{Bytes, routers_of, links_of, prefixes_of, blocks_in, blocks_needed, check_good, head_good, block_good, link_good, link_new, prefix_good, routers_new}
use Rattle.lfa.specs.Distance.{HoldsDistances}
use Rattle.lfa.specs.Ranks.{Arrangement}
use Rattle.lfa.specs.Repair.{none_serves}
use Rattle.lfa.specs.Question.{Question, network_asked, searched}

-- the causes that lie in a file
pub data FileRow : Type 0 where
  bad_length bad_check bad_head bad_block_count bad_block bad_link parallel_link bad_prefix router_twice : FileRow

-- row r applies to the file and returns v
abbrev pub FileApplies : Bytes → FileRow → ℕ → Type 0
FileApplies b bad_length v = ((length b ≡ 0) ⊎ ((length b % 512 ≡ 0 → ⊥) ⊎ (6656 < length b))) × (v ≡ 0)
FileApplies b bad_check v = FirstFails (check_good b) 0 (blocks_in b) v
FileApplies b bad_head v = (head_good b ≡ false) × (v ≡ 0)
FileApplies b bad_block_count v = (blocks_in b ≡ blocks_needed (links_of b) (prefixes_of b) → ⊥) × (v ≡ blocks_needed (links_of b) (prefixes_of b))
FileApplies b bad_block v = FirstFails (block_good b) 1 (blocks_in b - 1) v
FileApplies b bad_link v = FirstFails (link_good b) 0 (links_of b) v
FileApplies b parallel_link v = FirstFails (link_new b) 0 (links_of b) v
FileApplies b bad_prefix v = FirstFails (prefix_good b) 0 (prefixes_of b) v
FileApplies b router_twice v = FirstFails (routers_new b) 0 (prefixes_of b) v

-- the causes that lie in what else is asked, held against the counts of the file; they are looked for before anything is searched for
pub data EarlyRow : Type 0 where
  short_area wrong_table short_buffer bad_ranks no_such_link no_such_prefix : EarlyRow

-- row r applies to the question and returns v
abbrev pub EarlyApplies : Question → EarlyRow → ℕ → Type 0
EarlyApplies q short_area v = (q.cells < routers_of q.file * routers_of q.file) × (v ≡ routers_of q.file * routers_of q.file)
EarlyApplies q wrong_table v = (HoldsDistances (network_asked q) q.table → ⊥) × (v ≡ 0)
EarlyApplies q short_buffer v = (q.buffer < 2 * routers_of q.file) × (v ≡ 2 * routers_of q.file)
EarlyApplies q bad_ranks v = (Arrangement q.ranks → ⊥) × (v ≡ 0)
EarlyApplies q no_such_link v = ((links_of q.file ≤ q.link) ⊎ (1 < q.end)) × (v ≡ links_of q.file)
EarlyApplies q no_such_prefix v = (prefixes_of q.file ≤ q.prefix) × (v ≡ prefixes_of q.file)

-- every cause; the last is that no pair is found
pub data Row : Type 0 where
  of_file : FileRow → Row
  early : EarlyRow → Row
  no_pair : Row

abbrev pub Applies : Question → Row → ℕ → Type 0
Applies q (of_file r) v = FileApplies q.file r v
Applies q (early r) v = EarlyApplies q r v
Applies q no_pair v = (searched q q.call ≡ some none_serves) × (v ≡ 0)
