use Rattle.std.proofs.Common.{sym, ◌∙◌}
use Rattle.metric.proofs.Laws.List.{every_fails}
use Rattle.router_lsa.proofs.EveryLaws.{every_starts, every_more, every_ends}
use Rattle.router_lsa.proofs.entry.entries_good.Goals as goal

pub loop-k-init : goal.loop-k-init
loop-k-init c = every_starts _

pub returns-then-not-entry_good : goal.returns-then-not-entry_good
returns-then-not-entry_good c = sym (every_fails _ _ c.loop-k.k c.loop-k-test.true (sym c.entry_good.ensures ∙ c.if-not-entry_good.true))

pub loop-k-preserved : goal.loop-k-preserved
loop-k-preserved c = every_more _ c.loop-k.k c.loop-k.invariant (sym c.entry_good.ensures ∙ c.if-not-entry_good.false)

pub returns : goal.returns
returns c = sym (every_ends _ _ c.loop-k.k c.loop-k.auto.k-end c.loop-k-test.false c.loop-k.invariant)
