use Rattle.std.proofs.Common.{refl, arith}
use Rattle.lfa.proofs.Laws.File.Passes.{AreBytes}
use Rattle.router_links.proofs.JoinLaws.{none_held, all_more, all_links}
use Rattle.router_links.proofs.gather.links_of.Goals as goal

pub loop-a-init : goal.loop-a-init
loop-a-init c = none_held _ _ refl refl refl refl refl

pub loop-a-preserved : goal.loop-a-preserved
loop-a-preserved c = all_more _ _ _ (c.links_up-all.ensures _ c.loop-a.invariant)

pub returns : goal.returns
returns c =
    let bytes : AreBytes c.args.run.now = record { small = λ i. omega (arith, c.type_inv.run i) } in
    all_links _ bytes _ c.requires.0 _ _ (omega arith) c.loop-a-test.false c.loop-a.invariant
