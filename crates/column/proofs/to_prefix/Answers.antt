use Rattle.std.proofs.Common.{◌<◌, refl, arith}
use Rattle.lfa.specs.Lists.{count_up, below}
use Rattle.lfa.specs.Distance.{least, towards}
use Rattle.metric.specs.Area.{held}
use Rattle.metric.specs.Column.{slots_in}
use Rattle.metric.proofs.Laws.Area.{cell_known}
use Rattle.metric.proofs.Laws.Fit.{cells_give}
use Rattle.column.proofs.ColumnLaws.{slot_turn}
use Rattle.column.proofs.to_prefix.Goals as goal

pub loop-s-init : goal.loop-s-init
unfolding towards slots_in least below count_up
loop-s-init c = refl

-- the lesser of the sum over the slot and of what was found before
pub loop-s-preserved : goal.loop-s-preserved
loop-s-preserved c =
    let area = c.args.area.now in
    let slots = c.args.slots.now in
    let a = c.from in
    let f = cells_give _ _ c.requires.area_fits in
    let inside : a.result < area.n = omega (arith, a.ensures, c.requires.slots_within.router_in c.loop-s.s c.loop-s-test.true) in
    let read = cell_known area.n area.cells.now c.args.x a.result c.requires.x_in inside f.0 f.1 c.distance-to_router.ensures in
    let turn =
    slot_turn (held area.n area.cells.now) slots.at.now slots.own.now slots.first c.loop-s.s c.args.x c.loop-s.invariant a.ensures read
    c.from-in-loop-s.ensures c.add.ensures in
    omega (arith, c.min-best.ensures)
