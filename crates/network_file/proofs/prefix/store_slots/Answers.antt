use Rattle.std.proofs.Common.{◌*◌, ◌∙◌}
use Rattle.network_file.proofs.ColumnLaws.{stored_none, stored_more}
use Rattle.network_file.proofs.AttachmentLaws.{router_read, cost_read}
use Rattle.network_file.proofs.prefix.store_slots.Goals as goal

pub loop-s-init : goal.loop-s-init
loop-s-init c = (stored_none _ _ _, stored_none _ _ _)

pub loop-s-preserved : goal.loop-s-preserved
loop-s-preserved c =
    let l = c.loop-s in
    let a = c.args in (
      stored_more (8 * a.p) l.s _ a.at.now l.invariant.0 (router_read _ l.s),
      stored_more (8 * a.p) l.s _ a.own.now l.invariant.1 (c.slot_word.ensures.1 ∙ cost_read _ l.s),
    )
