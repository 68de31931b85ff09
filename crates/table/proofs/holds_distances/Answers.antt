-- `holds_distances` tries the tests one after the other.
-- Assumes nothing.
use Rattle.std.proofs.Common.{sym, ◌∙◌}
use Rattle.metric.proofs.Laws.Fit.{cells_give, links_give}
use Rattle.table.proofs.CallLaws.{cells_refused, links_refused, costs_refused, tested_answer, answered}
use Rattle.table.proofs.holds_distances.Goals as goal

pub returns-then-not-fits : goal.returns-then-not-fits
returns-then-not-fits c = cells_refused _ _ _ _ _ _ _ (sym c.fits.ensures ∙ c.if-not-fits.true)

pub returns-then-not-links_fit : goal.returns-then-not-links_fit
returns-then-not-links_fit c = links_refused _ _ _ _ _ _ _ (sym c.links_fit.ensures ∙ c.if-not-links_fit.true)

pub costs_fit-requires : goal.costs_fit-requires
costs_fit-requires c =
    let few = (cells_give _ _ (sym c.fits.ensures ∙ c.if-not-fits.false)).0 in
    (links_give _ _ _ _ few (sym c.links_fit.ensures ∙ c.if-not-links_fit.false)).few_links

pub returns-then-not-costs_fit : goal.returns-then-not-costs_fit
returns-then-not-costs_fit c = costs_refused _ _ _ _ _ _ _ (sym c.costs_fit.ensures ∙ c.if-not-costs_fit.true)

pub agrees-requires : goal.agrees-requires
agrees-requires c =
    let sized = cells_give _ _ (sym c.fits.ensures ∙ c.if-not-fits.false) in
    (links_give _ _ _ _ sized.0 (sym c.links_fit.ensures ∙ c.if-not-links_fit.false), sized.1, sym c.costs_fit.ensures ∙ c.if-not-costs_fit.false)

pub returns : goal.returns
returns c =
    let l = c.args.links.now in
    let fits = sym c.fits.ensures ∙ c.if-not-fits.false in
    let joins = sym c.links_fit.ensures ∙ c.if-not-links_fit.false in
    let costs = sym c.costs_fit.ensures ∙ c.if-not-costs_fit.false in
    let sized = cells_give _ _ fits in
    answered _ _ _ _ _ _ _ fits joins costs (tested_answer (links_give _ _ _ _ sized.0 joins) l.out l.back costs sized.1 c.agrees.ensures)
