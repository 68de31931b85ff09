use Rattle.std.proofs.Common.{◌<◌, arith, inr, ◌∙◌}
use Rattle.distance.proofs.RowLaws.{row_cell, rows_more}
use Rattle.distance.proofs.rows.lower_earlier.Goals as goal

pub loop-i-preserved : goal.loop-i-preserved
loop-i-preserved c =
    let inv = c.loop-i.invariant in
    let row-in : c.loop-i.i < c.args.n = omega arith in
    let weight = row_cell c.loop-i.i c.args.n _ row-in inv.long c.args.k c.requires.1 ∙ inv.rest c.loop-i.i c.args.k (inr (omega arith)) row-in c.requires.1 in
    rows_more c.requires.2 row-in inv (omega arith) weight c.lower_row.ensures
