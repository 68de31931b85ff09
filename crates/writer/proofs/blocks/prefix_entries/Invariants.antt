-- The label and the first i entries are put.
-- Assumes nothing.
use Rattle.writer.specs.Block.{prefix_entry_in}
use Rattle.writer.proofs.TurnLaws.{Begun}
use Rattle.writer.proofs.blocks.prefix_entries.Given as goal

abbrev pub invariant-loop-i : goal.invariant-loop-i
invariant-loop-i l = Begun 3 l.count l.number (prefix_entry_in l.network.attached l.network.at l.network.own l.first) l.i l.block
