use Rattle.std.proofs.Common.{arith}
use Rattle.options.proofs.MemberLaws.{from_all, member_found, member_passed, member_other, member_none}
use Rattle.options.proofs.member.Goals as goal
use Rattle.options.proofs.member.Goals.{then-set-r-eq1+else-left-eq0, else-set-r-eq1}

pub loop-r-init : goal.loop-r-init
loop-r-init c = rw (from_all c.args.set)

pub returns-then-left-eq0 : goal.returns-then-left-eq0
returns-then-left-eq0 c = member_found _ _ c.loop-r-test.true _ c.loop-r.invariant c.if-set-r-eq1.true c.if-left-eq0.true

pub loop-r-preserved : goal.loop-r-preserved
loop-r-preserved c = elim c.if-set-r-eq1.branch [
  | then-set-r-eq1+else-left-eq0 w ↦ rw w.left-is (member_passed _ _ c.loop-r-test.true _ c.loop-r.invariant w.if-set-r-eq1.true w.if-left-eq0.false)
  | else-set-r-eq1 w ↦ rw w.left-is (member_other _ _ c.loop-r-test.true _ c.loop-r.invariant w.if-set-r-eq1.false)
]

pub returns : goal.returns
returns c = member_none _ _ (omega arith) c.loop-r.invariant
