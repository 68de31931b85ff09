-- `best` is the distance over the slots passed.
use Rattle.std.proofs.Common.{◌≡◌}
use Rattle.lfa.specs.Distance.{towards}
use Rattle.metric.specs.Area.{held}
use Rattle.metric.specs.Column.{slots_in}
use Rattle.column.proofs.to_prefix.Given as goal

abbrev pub invariant-loop-s : goal.invariant-loop-s
invariant-loop-s l = l.best ≡ towards (held l.area.n l.area.cells.now) (slots_in l.slots.at.now l.slots.own.now l.slots.first l.s) l.x
