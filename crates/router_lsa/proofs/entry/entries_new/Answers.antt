use Rattle.std.proofs.Common.{sym, ◌∙◌}
use Rattle.metric.proofs.Laws.List.{every_fails}
use Rattle.router_lsa.proofs.EveryLaws.{every_starts, every_more, every_ends}
use Rattle.router_lsa.proofs.entry.entries_new.Goals as goal

pub loop-k-init : goal.loop-k-init
loop-k-init c = every_starts _

pub returns-then-not-entry_new : goal.returns-then-not-entry_new
returns-then-not-entry_new c = sym (every_fails _ _ c.loop-k.k c.loop-k-test.true (sym c.entry_new.ensures ∙ c.if-not-entry_new.true))

pub loop-k-preserved : goal.loop-k-preserved
loop-k-preserved c = every_more _ c.loop-k.k c.loop-k.invariant (sym c.entry_new.ensures ∙ c.if-not-entry_new.false)

pub returns : goal.returns
returns c = sym (every_ends _ _ c.loop-k.k c.loop-k.auto.k-end c.loop-k-test.false c.loop-k.invariant)
