use Rattle.std.proofs.Common.{arith}
use Rattle.block.specs.Laws.First.{passed_start, passed_more, first_found, none_found}
use Rattle.network_file.proofs.PairLaws.{joined_none, joined_more, is_new, not_new}
use Rattle.network_file.proofs.link.parallel_link.Goals as goal

pub loop-k-init : goal.loop-k-init
loop-k-init c = (passed_start _ 0 c.args.links.now.links, joined_none _)

pub returns-then-joined-cell : goal.returns-then-joined-cell
returns-then-joined-cell c =
    let l = c.loop-k in
    first_found _ 0 _ l.k l.invariant.0 (omega arith) (omega arith)
    (not_new _ _ _ c.requires.1 c.loop-k-test.true l.invariant.1 c.pair_cell-cell.ensures.0 c.if-joined-cell.true)

pub loop-k-preserved : goal.loop-k-preserved
loop-k-preserved c =
    let l = c.loop-k in
    let cell = c.pair_cell-cell.ensures.0 in (
      passed_more _ 0 c.args.links.now.links l.k l.invariant.0 (is_new _ _ _ c.requires.1 c.loop-k-test.true l.invariant.1 cell c.if-joined-cell.false),
      joined_more _ _ _ c.requires.1 c.loop-k-test.true l.invariant.1 cell,
    )

pub returns : goal.returns
returns c = none_found _ 0 _ c.loop-k.k c.loop-k.invariant.0 (omega arith)
