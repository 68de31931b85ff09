use Rattle.std.proofs.Common.{sym, ◌∙◌, inl, inr, le-ltb, arith, rules, ◌≡◌}
use Rattle.lfa.specs.Network.{router}
use Rattle.lfa.specs.Distance.{towards}
use Rattle.metric.specs.Area.{held, cell_in}
use Rattle.lfa.proofs.Laws.Target.{towards_router}
use Rattle.metric.proofs.Laws.Area.{cell_known}
use Rattle.metric.proofs.Laws.Fit.{cells_give}
use Rattle.column.proofs.CallLaws.{router_none, router_found}
use Rattle.column.proofs.towards_router.Goals as goal
use Rattle.column.proofs.towards_router.Goals.{else-fits-via-then-fits+else-t-area, else-fits-via-else-fits}

pub column_of-requires-clause-few : goal.column_of-requires-clause-few
column_of-requires-clause-few c = omega (arith, cells_give _ _ (sym c.if-fits.ensures))

pub returns-then-t-area : goal.returns-then-t-area
returns-then-t-area c =
    let f = cells_give _ _ (sym c.if-fits.ensures) in
    let area = c.args.area.now in
    router_found _ _ f.0 f.1 _ c.if-t-area.true (c.column_of.ensures (towards (held area.n area.cells.now) (router c.args.t)) (λ x r h most e.
    let read : r ≡ cell_in area.n area.cells.now x c.args.t = search rules in
    let known = cell_known area.n area.cells.now x c.args.t h c.if-t-area.true f.0 f.1 read in
    known ∙ sym (towards_router (held area.n area.cells.now) c.args.t x (omega arith))))

pub returns-else-fits : goal.returns-else-fits
returns-else-fits c = elim c.else-fits.branch [
  | else-fits-via-then-fits+else-t-area w ↦ router_none _ _ _ (inr (le-ltb _ _ w.if-t-area.false))
  | else-fits-via-else-fits w ↦ router_none _ _ _ (inl (sym c.fits.ensures ∙ w.if-fits.false))
]
