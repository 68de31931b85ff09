-- The area is filled where both tests pass.
use Rattle.std.proofs.Common.{◌*◌, arith, sym, inl, inr, ◌∙◌}
use borrow.Rule.Slice.PartMut.{mid_len}
use Rattle.metric.proofs.Laws.Fit.{cells_give, links_give}
use Rattle.distance.proofs.StoreLaws.{square_few}
use Rattle.distance.proofs.AreaLaws.{area_left, area_found}
use Rattle.distance.proofs.fill.Goals as goal

pub returns-then-not-fits : goal.returns-then-not-fits
returns-then-not-fits c = area_left _ _ _ _ _ _ _ (inl (sym c.fits.ensures ∙ c.if-not-fits.true))

pub returns-then-not-links_fit : goal.returns-then-not-links_fit
returns-then-not-links_fit c = area_left _ _ _ _ _ _ _ (inr (sym c.links_fit.ensures ∙ c.if-not-links_fit.true))

pub overflow_mul-n : goal.overflow_mul-n
overflow_mul-n c = omega (arith, square_few c.args.links.now.routers (cells_give _ _ (sym c.fits.ensures ∙ c.if-not-fits.false)).0)

pub slice_bounds-fill_cells-end : goal.slice_bounds-fill_cells-end
slice_bounds-fill_cells-end c = (cells_give _ _ (sym c.fits.ensures ∙ c.if-not-fits.false)).1

pub fill_cells-requires : goal.fill_cells-requires
fill_cells-requires c =
    let n = c.args.links.now.routers in
    let area = cells_give _ _ (sym c.fits.ensures ∙ c.if-not-fits.false) in
    (links_give _ _ _ _ area.0 (sym c.links_fit.ensures ∙ c.if-not-links_fit.false), mid_len 0 (n * n) c.args.work.now area.1 ∙ omega arith)

pub returns : goal.returns
returns c = area_found _ _ _ _ _ _ _ (sym c.fits.ensures ∙ c.if-not-fits.false) (sym c.links_fit.ensures ∙ c.if-not-links_fit.false) c.fill_cells.ensures
