-- `lower` stores the smaller of the cell and the cost.
use Rattle.std.proofs.Common.{arith}
use Rattle.distance.proofs.DirectLaws.{lowered_cell}
use Rattle.distance.proofs.direct.lower.Goals as goal

pub returns : goal.returns
returns c =
    let a = c.args in
    let pre = c.requires in
    (omega (arith, c.ranges.cost.fits), rw (c.min.ensures, c.from.ensures) (lowered_cell a.a a.b a.cost pre.1 pre.2 pre.0))
