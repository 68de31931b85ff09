use Rattle.std.proofs.Common.{sym, ap, not, eq-eqb, ne_eqb}
use Rattle.metric.proofs.Laws.List.{every_fails}
use Rattle.router_lsa.specs.Scan.{new_among}
use Rattle.router_lsa.proofs.EveryLaws.{every_starts, every_more, every_ends}
use Rattle.router_lsa.proofs.scan.new_among.Goals as goal

pub loop-j-init : goal.loop-j-init
loop-j-init c = every_starts _

pub returns-then-ids-j : goal.returns-then-ids-j
unfolding new_among
returns-then-ids-j c = sym (every_fails _ _ _ c.loop-j-test.true (ap not (eq-eqb _ _ (sym c.if-ids-j.true))))

pub loop-j-preserved : goal.loop-j-preserved
loop-j-preserved c = every_more _ _ c.loop-j.invariant (ap not (ne_eqb _ _ (λ e. c.if-ids-j.false (sym e))))

pub returns : goal.returns
unfolding new_among
returns c = sym (every_ends _ _ c.loop-j.j c.loop-j.auto.j-end c.loop-j-test.false c.loop-j.invariant)
