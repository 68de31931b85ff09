use Rattle.std.proofs.Common.{sym, ap, ◌∙◌, not}
use Rattle.ospf.specs.Lsa.{entry_new}
use Rattle.metric.proofs.Laws.List.{every_fails}
use Rattle.router_lsa.proofs.EveryLaws.{every_starts, every_more, every_ends}
use Rattle.router_lsa.proofs.entry.entry_new.Goals as goal

pub loop-j-init : goal.loop-j-init
loop-j-init c = every_starts _

pub returns-then-same_neighbour : goal.returns-then-same_neighbour
unfolding entry_new
returns-then-same_neighbour c = sym (every_fails _ _ c.loop-j.j c.loop-j-test.true (ap not (sym c.same_neighbour.ensures ∙ c.if-same_neighbour.true)))

pub loop-j-preserved : goal.loop-j-preserved
loop-j-preserved c = every_more _ c.loop-j.j c.loop-j.invariant (ap not (sym c.same_neighbour.ensures ∙ c.if-same_neighbour.false))

pub returns : goal.returns
unfolding entry_new
returns c = sym (every_ends _ _ c.loop-j.j c.loop-j.auto.j-end c.loop-j-test.false c.loop-j.invariant)
