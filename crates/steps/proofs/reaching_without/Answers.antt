use Rattle.std.proofs.Common.{rules, arith, sym, ◌∙◌, get_or}
use Rattle.lfa.specs.Space.{set_of}
use Rattle.metric.proofs.Laws.Set.{put_in, left_out}
use Rattle.steps.specs.Crossing.{reaches_without}
use Rattle.steps.proofs.reaching_without.Goals as goal
use Rattle.steps.proofs.reaching_without.Goals.{then-reaches_without, else-reaches_without}

pub loop-x-init : goal.loop-x-init
unfolding set_of
loop-x-init c = search rules

pub loop-x-preserved : goal.loop-x-preserved
loop-x-preserved c =
    let p = reaches_without (λ y. get_or c.args.target.now y 0) c.args.set in
    elim c.if-reaches_without.branch [
      | then-reaches_without w ↦ w.kept-is ∙ put_in p (omega arith) c.loop-x.invariant (sym c.reaches_without.ensures ∙ w.if-reaches_without.true)
      | else-reaches_without w ↦ w.kept-is ∙ left_out p c.loop-x.invariant (sym c.reaches_without.ensures ∙ w.if-reaches_without.false)
    ]
