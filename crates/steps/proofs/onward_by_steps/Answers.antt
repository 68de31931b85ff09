-- The next routers are made once, and followed backwards from the link and from E.
use Rattle.std.proofs.Common.{sym, ◌∙◌}
use Rattle.steps.specs.Laws.Crossing.{none_onward, found_onward}
use Rattle.steps.proofs.CrossingLaws.{fit_gives}
use Rattle.steps.proofs.onward_by_steps.Goals as goal

pub returns-then-not-numbers_fit : goal.returns-then-not-numbers_fit
returns-then-not-numbers_fit c = none_onward _ _ _ _ _ _ _ _ _ (sym c.numbers_fit.ensures ∙ c.if-not-numbers_fit.true)

pub over_link-requires : goal.over_link-requires
over_link-requires c = let f = fit_gives _ _ (sym c.numbers_fit.ensures ∙ c.if-not-numbers_fit.false) in (f.1, f.2)

pub one_if-requires : goal.one_if-requires
one_if-requires c = (fit_gives _ _ (sym c.numbers_fit.ensures ∙ c.if-not-numbers_fit.false)).2

pub reaching_without-avoiding-requires : goal.reaching_without-avoiding-requires
reaching_without-avoiding-requires c = (fit_gives _ _ (sym c.numbers_fit.ensures ∙ c.if-not-numbers_fit.false)).0

pub reaching_without-missing-requires : goal.reaching_without-missing-requires
reaching_without-missing-requires c = (fit_gives _ _ (sym c.numbers_fit.ensures ∙ c.if-not-numbers_fit.false)).0

pub returns : goal.returns
returns c =
    found_onward _ _ _ _ _ _ _ _ _ (sym c.numbers_fit.ensures ∙ c.if-not-numbers_fit.false) c.next_routers-nexts.ensures c.over_link.ensures c.leading_to-crossing.ensures
    c.one_if.ensures c.leading_to-visiting.ensures c.reaching_without-avoiding.ensures c.reaching_without-missing.ensures
