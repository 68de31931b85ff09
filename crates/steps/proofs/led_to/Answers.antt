use Rattle.std.proofs.Common.{rules, arith, ◌∙◌}
use Rattle.lfa.specs.Space.{set_of}
use Rattle.metric.proofs.Laws.Set.{put_in, left_out}
use Rattle.steps.proofs.LedLaws.{meets, is_met, not_met, led_all}
use Rattle.steps.proofs.led_to.Goals as goal
use Rattle.steps.proofs.led_to.Goals.{then-nexts-x-ne0, else-nexts-x-ne0}

pub loop-x-init : goal.loop-x-init
unfolding set_of
loop-x-init c = search rules

pub loop-x-preserved : goal.loop-x-preserved
loop-x-preserved c =
    let p = meets c.args.nexts.now c.args.set in
    elim c.if-nexts-x-ne0.branch [
      | then-nexts-x-ne0 w ↦ w.led-is ∙ put_in p (omega arith) c.loop-x.invariant (is_met _ _ _ w.if-nexts-x-ne0.true)
      | else-nexts-x-ne0 w ↦ w.led-is ∙ left_out p c.loop-x.invariant (not_met _ _ _ w.if-nexts-x-ne0.false)
    ]

pub returns : goal.returns
returns c = led_all _ _ c.loop-x.invariant (omega arith)
