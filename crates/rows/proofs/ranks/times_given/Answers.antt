-- Each class adds one where it has the rank.
use Rattle.std.proofs.Common.{◌≡◌, ◌+◌, length, refl, ap, ◌∙◌, arith}
use Rattle.lfa.specs.Lists.{count}
use Rattle.lfa.specs.Ranks.{times_given}
use Rattle.rows.proofs.RankLaws.{given_to, given_also, given_not}
use Rattle.rows.proofs.ranks.times_given.Goals as goal
use Rattle.rows.proofs.ranks.times_given.Goals.{then-entry-rank, else-entry-rank}

pub loop-entry-init : goal.loop-entry-init
unfolding count
loop-entry-init c = (omega arith, refl)

pub loop-entry-preserved : goal.loop-entry-preserved
loop-entry-preserved c =
    let l = c.loop-entry in
    let ranks = c.args.ranks.now in
    elim c.if-entry-rank.branch [
      | then-entry-rank w ↦ (omega arith, w.given-is ∙ ap (λ k. k + 1) l.invariant.1 ∙ given_also ranks _ l.entry-index w.if-entry-rank.true)
      | else-entry-rank w ↦ (omega arith, w.given-is ∙ l.invariant.1 ∙ given_not ranks _ l.entry-index w.if-entry-rank.false)
    ]

pub returns : goal.returns
unfolding times_given
returns c =
    let all : c.loop-entry.entry-index ≡ length c.args.ranks.now = omega arith in
    c.loop-entry.invariant.1 ∙ ap (given_to c.args.ranks.now c.args.rank) all
