use Rattle.std.proofs.Common.{refl}
use mathlib.Core.Logic.{inl, inr}
use Rattle.table.proofs.KeepLaws.{links_none, links_more, links_under}
use Rattle.table.proofs.keep.keep_arcs.Goals as goal

pub loop-k-init : goal.loop-k-init
loop-k-init c = let l = c.args.links.now in links_none l.from l.to l.out l.back

pub returns-then-not-keep_arc : goal.returns-then-not-keep_arc
returns-then-not-keep_arc c =
    let l = c.args.links.now in
    links_under l.from l.to l.out l.back _ _ c.loop-k-test.true (inl (c.from-a.ensures, c.from-b.ensures, refl)) (c.keep_arc.ensures.under c.if-not-keep_arc.true)

pub returns-then-not-keep_arc-2 : goal.returns-then-not-keep_arc-2
returns-then-not-keep_arc-2 c =
    let l = c.args.links.now in
    links_under l.from l.to l.out l.back _ _ c.loop-k-test.true (inr (c.from-b.ensures, c.from-a.ensures, refl)) (c.keep_arc-in-loop-k.ensures.under c.if-not-keep_arc-2.true)

pub loop-k-preserved : goal.loop-k-preserved
loop-k-preserved c =
    let l = c.args.links.now in
    links_more l.from l.to l.out l.back c.from-a.ensures c.from-b.ensures refl refl c.loop-k.invariant c.keep_arc.ensures c.if-not-keep_arc.false c.keep_arc-in-loop-k.ensures c.if-not-keep_arc-2.false
