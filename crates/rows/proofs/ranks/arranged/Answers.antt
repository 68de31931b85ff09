-- A table of another length, a rank that is not given just once, and every test passed.
use Rattle.std.proofs.Common.{sym, ◌∙◌, arith}
use Rattle.std.proofs.Common.{eq-eqb}
use Rattle.metric.proofs.Laws.List.{every_more}
use Rattle.rows.proofs.RankLaws.{once, wrong_length, not_once, each_once}
use Rattle.rows.proofs.ranks.arranged.Goals as goal

pub returns-then-ranks-ne8 : goal.returns-then-ranks-ne8
returns-then-ranks-ne8 c = wrong_length _ (λ e. absurd (omega (arith, e)))

pub returns-then-times_given-ne1 : goal.returns-then-times_given-ne1
returns-then-times_given-ne1 c = not_once _ c.loop-rank.rank (omega arith) (λ e. c.if-times_given-ne1.true (c.times_given.ensures ∙ e))

pub loop-rank-preserved : goal.loop-rank-preserved
loop-rank-preserved c = every_more (once c.args.ranks.now) c.loop-rank.rank c.loop-rank.invariant (eq-eqb _ 1 (sym c.times_given.ensures ∙ c.if-times_given-ne1.false))

pub returns : goal.returns
returns c = each_once _ (omega arith) (λ k h. c.loop-rank.invariant k (omega arith))
