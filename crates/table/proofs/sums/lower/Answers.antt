use Rattle.std.proofs.Common.{◌≡◌, ◌+◌, min, arith}
use Rattle.metric.specs.Area.{area_cell}
use Rattle.table.proofs.SumLaws.{row_more}
use Rattle.table.proofs.sums.lower.Goals as goal

pub loop-t-preserved : goal.loop-t-preserved
loop-t-preserved c =
    let a = c.args in
    let w = c.requires.3 in
    let v : c.min.result ≡ min (area_cell a.n c.loop-t.sums a.a c.loop-t.t) (min a.cost 65535 + area_cell a.n a.cells.now a.b c.loop-t.t) = omega (arith, c.min.ensures, c.from-hop.ensures) in
    row_more w.few w.long c.requires.0 c.loop-t-test.true c.loop-t.invariant v
