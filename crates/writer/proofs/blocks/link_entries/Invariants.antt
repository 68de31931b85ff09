-- The label and the first i entries are put.
-- Assumes nothing.
use Rattle.writer.specs.Block.{link_entry_in}
use Rattle.writer.proofs.TurnLaws.{Begun}
use Rattle.writer.proofs.blocks.link_entries.Given as goal

abbrev pub invariant-loop-i : goal.invariant-loop-i
invariant-loop-i l = Begun 2 l.count l.number (link_entry_in l.links.from l.links.to l.links.out l.links.back l.first) l.i l.block
