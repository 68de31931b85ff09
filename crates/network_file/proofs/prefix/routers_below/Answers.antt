use Rattle.std.proofs.Common.{sym}
use Rattle.network_file.proofs.EveryLaws.{every_none}
use Rattle.network_file.proofs.OrLaws.{or_more}
use Rattle.network_file.proofs.prefix.routers_below.Goals as goal

pub loop-s-init : goal.loop-s-init
loop-s-init c = sym (every_none _)

pub loop-s-preserved : goal.loop-s-preserved
loop-s-preserved c = or_more 16 _ c.loop-s.s c.loop-s.all _ c.loop-s.invariant (rw c.slot_word.ensures.0)
