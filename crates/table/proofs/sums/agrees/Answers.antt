use Rattle.std.proofs.Common.{arith}
use Rattle.std.proofs.Math.Nat.{mul-le-mul}
use Rattle.metric.proofs.Laws.Columns.{columns_within}
use Rattle.table.proofs.CellLaws.{sized32, summands_copied, firsts_same}
use Rattle.table.proofs.TestLaws.{same_tested}
use Rattle.table.proofs.sums.agrees.Goals as goal

pub returns : goal.returns
returns c =
    let l = c.args.links.now in
    let few = c.requires.0.few_routers in
    same_tested (sized32 l.routers) (columns_within l.from l.to l.out l.back l.links l.routers c.requires.0) (summands_copied c.args.table.now c.requires.1 c.copy_summands.ensures)
    c.clear_diagonal.ensures c.lower_links.ensures (firsts_same c.copy_summands.new.cells c.lower_links.new.sums (omega (arith, few, mul-le-mul few few)) (omega (arith, few, mul-le-mul few few)) c.eq.ensures)
