use Rattle.std.proofs.Common.{◌++◌, arith}
use Rattle.lfa.proofs.Laws.File.Passes.{AreBytes}
use Rattle.router_links.proofs.JoinLaws.{up_to, stands_at, up_starts, up_next, up_done}
use Rattle.router_links.proofs.gather.links_up.Goals as goal

pub loop-b-init : goal.loop-b-init
loop-b-init c = λ held h. up_starts _ _ _ held _ h

pub lsa_metric-metric-requires : goal.lsa_metric-metric-requires
lsa_metric-metric-requires c =
    let bytes : AreBytes c.args.run.now = record { small = λ i. omega (arith, c.type_inv.run i) } in
    stands_at _ bytes _ c.requires.0 _ c.requires.1 c.requires.2 c.args.a c.requires.3

pub lsa_metric-other-requires : goal.lsa_metric-other-requires
lsa_metric-other-requires c =
    let bytes : AreBytes c.args.run.now = record { small = λ i. omega (arith, c.type_inv.run i) } in
    stands_at _ bytes _ c.requires.0 _ c.requires.1 c.requires.2 c.loop-b.b c.loop-b-test.true

pub loop-b-preserved : goal.loop-b-preserved
loop-b-preserved c =
    let bytes : AreBytes c.args.run.now = record { small = λ i. omega (arith, c.type_inv.run i) } in
    λ held h.
    up_next _ bytes _ c.requires.0 _ c.requires.1 c.requires.2 c.args.a c.loop-b.b _ _ held _ (omega arith) c.loop-b-test.true c.lsa_metric-metric.ensures c.lsa_metric-other.ensures
    (c.add_link-all.ensures (held ++ up_to _ _ _ _) (c.loop-b.invariant held h))

pub returns : goal.returns
returns c =
    let bytes : AreBytes c.args.run.now = record { small = λ i. omega (arith, c.type_inv.run i) } in
    λ held h. up_done _ bytes _ c.requires.0 _ c.requires.1 c.requires.2 c.args.a c.loop-b.b held _ (omega arith) c.loop-b-test.false (c.loop-b.invariant held h)
