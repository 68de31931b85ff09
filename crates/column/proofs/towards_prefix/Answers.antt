use Rattle.std.proofs.Common.{sym, ◌∙◌, inl, inr, arith, rules, ◌≡◌, true, length}
use Rattle.metric.specs.Fit.{cells_fit, SlotsWithin}
use Rattle.lfa.specs.Distance.{towards}
use Rattle.metric.specs.Area.{held}
use Rattle.metric.specs.Column.{slots_in}
use Rattle.metric.proofs.Laws.Fit.{cells_give, slots_give}
use Rattle.column.proofs.CallLaws.{prefix_none, prefix_found_lem}
use Rattle.column.proofs.towards_prefix.Goals as goal
use Rattle.column.proofs.towards_prefix.Goals.{else-fits-via-then-fits+else-slots_fit, else-fits-via-else-fits}

pub column_of-requires-clause-few : goal.column_of-requires-clause-few
column_of-requires-clause-few c = omega (arith, cells_give _ _ (sym c.if-fits.ensures))

pub column_of-requires-clause-callable : goal.column_of-requires-clause-callable
column_of-requires-clause-callable c =
    let area = c.args.area.now in
    let slots = c.args.slots.now in
    let fits : cells_fit area.n (length area.cells.now) ≡ true = sym c.if-fits.ensures in
    let within : SlotsWithin area.n slots.first slots.count slots.at.now = slots_give _ _ _ _ (sym c.if-slots_fit.ensures) in
    λ x h. search rules

pub returns-then-slots_fit : goal.returns-then-slots_fit
returns-then-slots_fit c =
    let f = cells_give _ _ (sym c.if-fits.ensures) in
    let area = c.args.area.now in
    let slots = c.args.slots.now in
    prefix_found_lem _ _ f.0 f.1 _ _ _ _ (slots_give _ _ _ _ (sym c.if-slots_fit.ensures))
    (c.column_of.ensures (towards (held area.n area.cells.now) (slots_in slots.at.now slots.own.now slots.first slots.count)) (λ x r h most e. search rules))

pub returns-else-fits : goal.returns-else-fits
returns-else-fits c = elim c.else-fits.branch [
  | else-fits-via-then-fits+else-slots_fit w ↦ prefix_none _ _ _ _ _ _ (inr (sym w.slots_fit.ensures ∙ w.if-slots_fit.false))
  | else-fits-via-else-fits w ↦ prefix_none _ _ _ _ _ _ (inl (sym c.fits.ensures ∙ w.if-fits.false))
]
