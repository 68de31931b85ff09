-- The count and a zero byte, and the slots after them.
-- Assumes nothing.
use Rattle.std.proofs.Common.{refl, arith}
use Rattle.writer.proofs.TurnLaws.{prefix_put}
use Rattle.writer.proofs.put.put_prefix.Goals as goal

pub returns : goal.returns
returns c =
    let slots = c.args.slots.now in
    prefix_put slots.at.now slots.own.now slots.first c.args.at slots.count _ c.args.bytes.now _ refl (omega (arith, c.requires.0, c.requires.1)) c.put_slots.ensures
