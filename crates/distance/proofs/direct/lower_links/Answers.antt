use Rattle.std.proofs.Common.{arith, refl}
use Rattle.distance.proofs.DirectLaws.{cheapest_limited, lowered_limited, linked_none, linked_more}
use Rattle.distance.proofs.direct.lower_links.Goals as goal

pub loop-k-init : goal.loop-k-init
loop-k-init c = let l = c.args.links.now in linked_none l.from l.to l.out l.back c.requires.1

pub lower-requires : goal.lower-requires
lower-requires c =
    let w = c.requires.0 in
    let from_in = w.from_in c.loop-k.k c.loop-k-test.true in
    let to_in = w.to_in c.loop-k.k c.loop-k-test.true in
    (cheapest_limited _ w.few_routers c.loop-k.invariant.1, omega arith, omega arith)

pub lower-requires-in-loop-k : goal.lower-requires-in-loop-k
lower-requires-in-loop-k c =
    let w = c.requires.0 in
    let from_in = w.from_in c.loop-k.k c.loop-k-test.true in
    let to_in = w.to_in c.loop-k.k c.loop-k-test.true in
    (lowered_limited (cheapest_limited _ w.few_routers c.loop-k.invariant.1) c.lower.ensures.1, omega arith, omega arith)

pub loop-k-preserved : goal.loop-k-preserved
loop-k-preserved c =
    let l = c.args.links.now in
    linked_more l.from l.to l.out l.back c.loop-k.k c.from-a.ensures c.from-b.ensures refl refl c.lower.ensures c.lower-in-loop-k.ensures c.loop-k.invariant
