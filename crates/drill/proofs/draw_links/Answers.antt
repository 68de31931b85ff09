-- A turn of the loop draws one link.
-- Assumes nothing.
use Rattle.std.proofs.Common.{refl, arith, rules}
use Rattle.lfa.proofs.Laws.Ring.{next_in}
use Rattle.drill.proofs.DrawLaws.{draw_none, draw_next}
use Rattle.drill.proofs.draw_links.Goals as goal

pub loop-i-init : goal.loop-i-init
loop-i-init c = draw_none _ _ _ _ _ _ refl refl refl refl

pub overflow_cast-to : goal.overflow_cast-to
overflow_cast-to c =
    let below = next_in c.args.n c.loop-i.i (omega arith) in
    search (rules, below, c.ends_of-ends.ensures.1)

pub loop-i-preserved : goal.loop-i-preserved
loop-i-preserved c =
    let ends = c.ends_of-ends in
    draw_next c.loop-i.invariant (omega arith) (omega arith) _ _ _ _ _ _ c.replace-first.ensures c.replace-second.ensures ends.ensures.0 ends.ensures.1
    c.cost_of.ensures c.cost_of-in-loop-i.ensures

pub returns : goal.returns
returns c = (refl, refl, refl, λ i h. c.loop-i.invariant.links i (omega arith))
