use Rattle.std.proofs.Common.{sym, arith, ◌∙◌}
use Rattle.ospf.proofs.Laws.Reading.{passed_fields, passed_next}
use Rattle.router_lsa.specs.Scan.{new_router}
use Rattle.router_lsa.proofs.EveryLaws.{every_more, every_ends}
use Rattle.router_lsa.proofs.NewLaws.{is_named, not_named}
use Rattle.router_lsa.proofs.scan.new_later.Goals as goal

pub loop-j-init : goal.loop-j-init
loop-j-init c = (c.requires.2, c.requires.3)

pub overflow_add-at : goal.overflow_add-at
overflow_add-at c = omega (arith, passed_fields _ _ c.loop-j.j c.loop-j.at c.requires.0 c.loop-j-test.true c.loop-j.invariant.0)

pub returns-then-be32_at-router : goal.returns-then-be32_at-router
returns-then-be32_at-router c =
    is_named _ _ c.loop-j.j c.loop-j.at c.args.router c.requires.0 c.loop-j-test.true c.loop-j.invariant.0 _ c.be32_at.ensures c.if-be32_at-router.true

pub overflow_add-at-in-loop-j : goal.overflow_add-at-in-loop-j
overflow_add-at-in-loop-j c = omega (arith, passed_fields _ _ c.loop-j.j c.loop-j.at c.requires.0 c.loop-j-test.true c.loop-j.invariant.0)

pub overflow_add-at-in-loop-j-2 : goal.overflow_add-at-in-loop-j-2
overflow_add-at-in-loop-j-2 c =
    omega (arith, (passed_next _ _ c.loop-j.j c.loop-j.at c.requires.0 c.loop-j-test.true c.loop-j.invariant.0 _ (c.from-at.ensures ∙ c.be16_at.ensures)).0)

pub loop-j-preserved : goal.loop-j-preserved
unfolding new_router
loop-j-preserved c =
    let l = c.loop-j in
    let p = c.requires.0 in
    let h = c.loop-j-test.true in (
      (passed_next _ _ l.j l.at p h l.invariant.0 _ (c.from-at.ensures ∙ c.be16_at.ensures)).1,
      every_more _ l.j l.invariant.1 (not_named _ _ l.j l.at c.args.router p h l.invariant.0 _ c.be32_at.ensures c.if-be32_at-router.false),
    )

pub returns : goal.returns
unfolding new_router
returns c = sym (every_ends _ _ c.loop-j.j (omega arith) c.loop-j-test.false c.loop-j.invariant.1)
