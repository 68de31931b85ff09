use Rattle.std.proofs.Common.{◌≡◌, ◌∙◌, refl, sym, arith}
use Rattle.lfa.specs.Space.{set_of}
use Rattle.metric.proofs.Laws.Set.{put_in, left_out}
use Rattle.avoid.proofs.set.set_where.Goals as goal
use Rattle.avoid.proofs.set.set_where.Goals.{then-passes, else-passes}

pub loop-x-init : goal.loop-x-init
unfolding set_of
loop-x-init g c = λ p h. refl

pub loop-x-preserved : goal.loop-x-preserved
loop-x-preserved g c = λ p h.
    let e : c.passes.result ≡ p c.loop-x.x = h c.loop-x.x c.passes.result c.loop-x-test.true c.passes.ensures in
    elim c.if-passes.branch [
      | then-passes w ↦ w.set-is ∙ put_in p (omega arith) (c.loop-x.invariant p h) (sym e ∙ w.if-passes.true)
      | else-passes w ↦ w.set-is ∙ left_out p (c.loop-x.invariant p h) (sym e ∙ w.if-passes.false)
    ]
