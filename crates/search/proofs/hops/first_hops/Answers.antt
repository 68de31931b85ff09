use Rattle.std.proofs.Common.{◌≡◌, ◌+◌, ◌*◌, refl, sym, ◌∙◌, arith}
use Rattle.avoid.specs.Avoiding.{asked}
use Rattle.search.proofs.HopLaws.{firsts_none, arc_tried, link_passed}
use Rattle.search.proofs.hops.first_hops.Goals as goal
use Rattle.search.proofs.hops.first_hops.Goals.{then-touches, else-touches}

pub loop-k-init : goal.loop-k-init
loop-k-init c = firsts_none _ _ _ _ _ _ refl

pub loop-k-preserved : goal.loop-k-preserved
loop-k-preserved c =
    let a = c.args in
    let k = c.loop-k.k in
    let q = asked a.protected in
    let e : 2 * (k + 1) ≡ 2 * k + 1 + 1 = omega arith in
    let before = c.loop-k.invariant in
    rw e (elim c.if-touches.branch [
      | then-touches w ↦ rw w.hops-is (arc_tried q a.links.now.from a.links.now.to a.links.now.out a.links.now.back (2 * k + 1) (arc_tried q a.links.now.from a.links.now.to a.links.now.out a.links.now.back (2 * k) before w.put.ensures) w.put-then-touches.ensures)
      | else-touches w ↦ rw w.hops-is (link_passed q a.links.now.from a.links.now.to a.links.now.out a.links.now.back k (sym c.touches.ensures ∙ w.if-touches.false) before)
    ])

pub returns : goal.returns
returns c =
    let f = c.loop-k.invariant in
    let e : c.loop-k.k ≡ c.args.links.now.links = omega arith in
    record { few = omega (arith, f.few); all = rw (← e) f.all }
