use Rattle.std.proofs.Common.{rules, arith, sym, ◌∙◌}
use Rattle.steps.specs.Steps.{led_in}
use Rattle.steps.proofs.LedLaws.{round, settled_at}
use Rattle.steps.proofs.leading_to.Goals as goal

pub loop-init : goal.loop-init
unfolding led_in
loop-init c = search rules

pub returns-then-more-set : goal.returns-then-more-set
returns-then-more-set c =
    let l = c.loop in
    let next = round _ _ l.counter l.invariant c.led_to.ensures in
    settled_at _ _ l.counter _ (omega arith) l.invariant (sym c.if-more-set.true ∙ next)

pub loop-preserved : goal.loop-preserved
loop-preserved c = round _ _ c.loop.counter c.loop.invariant c.led_to.ensures
