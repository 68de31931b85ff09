use Rattle.std.proofs.Common.{sym, ◌∙◌}
use Rattle.metric.proofs.Laws.Fit.{slots_give}
use Rattle.column.specs.Calls.{attached_set}
use Rattle.column.proofs.attached_routers.Goals as goal

pub attached_in-requires : goal.attached_in-requires
attached_in-requires c = slots_give _ _ _ _ (sym c.if-slots_fit.ensures)

pub returns-then-slots_fit : goal.returns-then-slots_fit
unfolding attached_set
returns-then-slots_fit c = rw (sym c.slots_fit.ensures ∙ c.if-slots_fit.true, attached_set) c.attached_in.ensures

pub returns-else-slots_fit : goal.returns-else-slots_fit
unfolding attached_set
returns-else-slots_fit c = rw (sym c.slots_fit.ensures ∙ c.if-slots_fit.false, attached_set)
