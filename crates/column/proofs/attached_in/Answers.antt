use Rattle.std.proofs.Common.{refl}
use Rattle.column.proofs.SlotLaws.{no_slots, slot_more}
use Rattle.column.proofs.attached_in.Goals as goal

pub loop-s-init : goal.loop-s-init
loop-s-init c = no_slots _ _

-- the slot holds a router
pub loop-s-preserved : goal.loop-s-preserved
loop-s-preserved c =
    let slots = c.args.slots.now in
    slot_more slots.at.now slots.first c.loop-s.s c.loop-s.invariant refl (c.requires.router_in c.loop-s.s c.loop-s-test.true)
