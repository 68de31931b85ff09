-- The test of each prefix.
-- Assumes nothing.
use Rattle.std.proofs.Common.{get_or, sym, arith}
use borrow.Author.Tests.{lt-leb}
use Rattle.lfa.proofs.Laws.List.{every_make}
use Rattle.metric.proofs.Laws.List.{every_fails}
use Rattle.writer.proofs.counts.entries_fit.Goals as goal

pub returns-then-count-gt8 : goal.returns-then-count-gt8
returns-then-count-gt8 c =
    let i = c.loop-count.count-index in
    sym (every_fails _ _ i c.loop-count-test.true (lt-leb (get_or c.args.attached.now i 0) 8 c.if-count-gt8.true))

pub returns : goal.returns
returns c = sym (every_make _ _ (λ k h. c.loop-count.invariant k (omega arith)))
