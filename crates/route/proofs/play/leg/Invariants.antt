-- What is written and what is ahead make the leg from its start, the next choice byte being the first of those that are ahead; each step is
-- nearer to the target, which is what makes the loop end.
use Rattle.lfa.specs.Route.{options}
use Rattle.lfa.specs.Sound.{level}
use Rattle.lfa.proofs.Laws.Walk.{measure}
use Rattle.metric.specs.Columns.{arcs_in}
use Rattle.metric.specs.Area.{held}
use Rattle.metric.specs.Column.{slots_in}
use Rattle.route.proofs.ProgressLaws.{Playing}
use Rattle.route.proofs.play.leg.Given as goal

abbrev pub invariant-loop-x : goal.invariant-loop-x
invariant-loop-x l =
    let g = l.fn.ground in
    let w = g.links.now in
    let s = l.fn.slots in
    Playing (options g.area.n (arcs_in w.from w.to w.out w.back w.links) (held g.area.n g.area.cells.now) (slots_in s.at.now s.own.now s.first s.count)) g.choices.now l.fn.stop g.area.n l.fn.start l.fn.before.used l.fn.before.written l.initial.buffer l.x l.next l.k l.buffer

abbrev pub decreases-loop-x : goal.decreases-loop-x
decreases-loop-x l =
    let g = l.fn.ground in
    let s = l.fn.slots in
    measure level (held g.area.n g.area.cells.now) (slots_in s.at.now s.own.now s.first s.count) l.x
