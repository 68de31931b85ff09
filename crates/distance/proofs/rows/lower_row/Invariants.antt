-- The first j cells of the row are lowered.
use Rattle.std.proofs.Common.{◌+◌, ◌<◌, get_or}
use Rattle.std.specs.Prelude.{min}
use Rattle.distance.specs.Cells.{limit, Stored}
use Rattle.distance.proofs.rows.lower_row.Given as goal

abbrev pub invariant-loop-j : goal.invariant-loop-j
invariant-loop-j l = (l.d < limit) × Stored l.j (λ j. min (get_or l.fn.row j 0) (l.d + get_or l.by j 0)) l.fn.row l.row
