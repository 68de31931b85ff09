-- The first s slots are put.
-- Assumes nothing.
use Rattle.std.proofs.Common.{◌≡◌, map}
use Rattle.lfa.specs.Lists.{flat}
use Rattle.lfa.specs.FileOf.{slot_bytes}
use Rattle.metric.specs.Column.{slots_in}
use Rattle.writer.specs.Put.{put_at}
use Rattle.writer.proofs.put.put_slots.Given as goal

abbrev pub invariant-loop-s : goal.invariant-loop-s
invariant-loop-s l = l.bytes ≡ put_at l.at (flat (map slot_bytes (slots_in l.slots.at.now l.slots.own.now l.slots.first l.s))) l.fn.bytes
