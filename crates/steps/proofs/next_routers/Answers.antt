use Rattle.std.proofs.Common.{arith, sym, ◌∙◌}
use Rattle.metric.proofs.Laws.Fit.{links_give}
use Rattle.steps.specs.Laws.Calls.{unfit, fitting}
use Rattle.steps.proofs.next_routers.Goals as goal

pub returns-then-not-links_fit : goal.returns-then-not-links_fit
returns-then-not-links_fit c = unfit _ _ _ _ _ _ _ (sym c.links_fit.ensures ∙ c.if-not-links_fit.true)

pub nexts_over-requires : goal.nexts_over-requires
nexts_over-requires c = links_give _ _ _ _ (omega arith) (sym c.links_fit.ensures ∙ c.if-not-links_fit.false)

pub returns : goal.returns
returns c = c.nexts_over.ensures ∙ sym (fitting _ _ _ _ _ _ _ (sym c.links_fit.ensures ∙ c.if-not-links_fit.false))
