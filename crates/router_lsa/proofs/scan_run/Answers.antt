use Rattle.std.proofs.Common.{sym, refl, ◌∙◌, arith}
use Rattle.std.proofs.Math.ListN.{length-set}
use Rattle.ospf.specs.Run.{begin_of}
use Rattle.ospf.proofs.Laws.Run.{passed_none}
use Rattle.ospf.proofs.Laws.Reading.{router_read}
use Rattle.router_lsa.specs.Scan.{scanned}
use Rattle.router_lsa.proofs.RunLaws.{scan_bad, scan_good, scan_whole}
use Rattle.router_lsa.proofs.NewLaws.{hand_none, hand_more, hand_full}
use Rattle.router_lsa.proofs.scan_run.Goals as goal
use Rattle.router_lsa.proofs.scan_run.Goals.{then-i-lt64, else-i-lt64}

pub loop-at-init : goal.loop-at-init
unfolding begin_of
loop-at-init c = (passed_none _, refl, hand_none _ _, refl)

pub returns-in_default : goal.returns-in_default
unfolding scanned
returns-in_default c = scan_bad _ _ _ c.loop-at.invariant.1 c.loop-at.invariant.0 c.loop-at-test.true (sym c.in_default.is ∙ c.lsa_good.ensures)

pub loop-at-smaller : goal.loop-at-smaller
loop-at-smaller c =
    let o = scan_good _ _ _ c.loop-at.invariant.1 c.loop-at.invariant.0 c.in-Some.ensures in
    omega (arith, o.more, o.begins, o.passed.inside)

pub loop-at-preserved : goal.loop-at-preserved
loop-at-preserved c =
    let l = c.loop-at in
    let o = scan_good _ _ _ l.invariant.1 l.invariant.0 c.in-Some.ensures in (
      o.passed,
      o.begins,
      elim c.if-i-lt64.branch [
        | then-i-lt64 w ↦ rw w.hand-is
            (hand_more _ _ _ _ l.invariant.2 _ _ w.if-i-lt64.true (omega (arith, w.if-i-lt64.true, l.invariant.3))
            (router_read _ _ l.i l.at o.passed (omega arith) l.invariant.1 _ w.be32_at.ensures) o.begins)
        | else-i-lt64 w ↦ rw w.hand-is (hand_full _ _ _ _ l.invariant.2 w.if-i-lt64.false)
      ],
      elim c.if-i-lt64.branch [
        | then-i-lt64 w ↦ rw w.hand-is (simp length-set l.invariant.3)
        | else-i-lt64 w ↦ rw w.hand-is l.invariant.3
      ],
    )

pub returns : goal.returns
unfolding scanned
returns c = scan_whole _ _ _ c.loop-at.invariant.1 c.loop-at.invariant.0 c.loop-at-test.false
