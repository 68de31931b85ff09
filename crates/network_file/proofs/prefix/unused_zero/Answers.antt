use Rattle.std.proofs.Common.{◌<◌, sym, arith}
use Rattle.network_file.proofs.EveryLaws.{every_none}
use Rattle.network_file.proofs.OrLaws.{or_zero_more}
use Rattle.network_file.proofs.SlotLaws.{slot_masked}
use Rattle.network_file.proofs.prefix.unused_zero.Goals as goal

pub loop-s-init : goal.loop-s-init
loop-s-init c = sym (every_none _)

pub loop-s-preserved : goal.loop-s-preserved
loop-s-preserved c =
    let w = c.slot_word in
    let l = c.loop-s in
    let fits : w.result < 4294967296 = omega arith in
    let h : l.s < 8 = omega arith in
    or_zero_more _ l.s l.all _ l.invariant (slot_masked _ _ l.s w.result _ fits c.requires.1 h c.requires.2 w.ensures.0 w.ensures.1)
