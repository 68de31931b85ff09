-- A turn of the loop puts one slot.
-- Assumes nothing.
use Rattle.std.proofs.Common.{◌≡◌, arith}
use Rattle.writer.proofs.TurnLaws.{no_slots, slot_more}
use Rattle.writer.proofs.put.put_slots.Goals as goal

pub loop-s-init : goal.loop-s-init
loop-s-init c = let slots = c.args.slots.now in no_slots slots.at.now slots.own.now slots.first c.args.at c.args.bytes.now

pub loop-s-preserved : goal.loop-s-preserved
loop-s-preserved c =
    let slots = c.args.slots.now in
    slot_more slots.at.now slots.own.now slots.first c.args.at c.args.bytes.now c.loop-s.s _ _ (omega arith) c.loop-s.invariant c.put_four.ensures

pub returns : goal.returns
returns c = let e : c.loop-s.s ≡ c.args.slots.now.count = omega arith in rw e at c.loop-s.invariant
