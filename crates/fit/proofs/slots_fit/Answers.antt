use Rattle.std.proofs.Common.{◌+◌, ◌<◌, arith, lt-ltb, get_or}
use Rattle.metric.specs.Fit.{attaches}
use Rattle.metric.proofs.Laws.List.{every_more}
use Rattle.fit.proofs.FitLaws.{slots_many, slot_fails, slots_pass}
use Rattle.fit.proofs.slots_fit.Goals as goal

pub returns-then-slots-gt1024 : goal.returns-then-slots-gt1024
returns-then-slots-gt1024 c = slots_many _ _ _ _ (omega arith)

pub returns-then-slots : goal.returns-then-slots
returns-then-slots c = slots_many _ _ _ _ (omega arith)

pub loop-s-init : goal.loop-s-init
loop-s-init c = λ j h. absurd (omega arith)

pub returns-then-n-from : goal.returns-then-n-from
returns-then-n-from c = slot_fails _ _ _ _ c.loop-s.s c.loop-s-test.true (omega (arith, c.from.ensures))

pub loop-s-preserved : goal.loop-s-preserved
loop-s-preserved c =
    let a = c.args in
    let h : get_or a.slots.now.at.now (a.slots.now.first + c.loop-s.s) 0 < a.n = omega (arith, c.from.ensures) in
    every_more (attaches a.n a.slots.now.first a.slots.now.at.now) c.loop-s.s c.loop-s.invariant (lt-ltb _ _ h)

pub returns : goal.returns
returns c = slots_pass _ _ _ _ (omega arith) (λ s h. c.loop-s.invariant s (omega arith))
