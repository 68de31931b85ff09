-- How many entries of a kind can be named.
-- Assumes nothing.
use Rattle.std.specs.Prelude.{ℕ}
use Rattle.std.proofs.Math.Option.{none, some}
use Rattle.lfa.specs.File.{Bytes, word_at}
use Rattle.lfa.specs.Refusal.{file_refusal}

-- the number of links or of prefixes, by its offset in the head, of the network that `load` hands over
unfoldable pub count_loaded : Bytes → ℕ → ℕ
count_loaded b at = elim (file_refusal b) [ none ↦ word_at b at | some d ↦ 0 ]
