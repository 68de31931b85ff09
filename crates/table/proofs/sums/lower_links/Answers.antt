use Rattle.std.proofs.Common.{refl, arith}
use Rattle.table.proofs.SumLaws.{sums_limited, sums_more, links_none, links_more}
use Rattle.table.proofs.sums.lower_links.Goals as goal

pub loop-k-init : goal.loop-k-init
loop-k-init c = let l = c.args.links.now in links_none l.from l.to l.out l.back _ _

pub lower-requires-in-loop-k : goal.lower-requires-in-loop-k
lower-requires-in-loop-k c =
    let w = c.requires.0 in
    let there = c.lower.ensures in (
      omega (arith, w.to_in c.loop-k.k c.loop-k-test.true, c.from-b.ensures),
      omega (arith, w.from_in c.loop-k.k c.loop-k-test.true, c.from-a.ensures),
      c.requires.1,
      sums_limited c.requires.2 (sums_more _ _ _ c.loop-k.k there.0 c.loop-k.invariant there.1),
    )

pub loop-k-preserved : goal.loop-k-preserved
loop-k-preserved c =
    let l = c.args.links.now in
    links_more l.from l.to l.out l.back c.loop-k.k c.from-a.ensures c.from-b.ensures refl refl c.loop-k.invariant c.lower.ensures c.lower-in-loop-k.ensures
