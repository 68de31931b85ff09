use borrow.Author.Tests.{eq-eqb, ne_eqb}
use Rattle.router_lsa.proofs.LinkLaws.{link_tos, link_stub, link_other, link_free, link_other_end}
use Rattle.router_lsa.proofs.entry.link_good.Goals as goal

pub returns-then-tos-ne0 : goal.returns-then-tos-ne0
returns-then-tos-ne0 c = link_tos _ _ _ _ _ _ (ne_eqb _ _ c.if-tos-ne0.true)

pub returns-then-kind-eq3 : goal.returns-then-kind-eq3
returns-then-kind-eq3 c = link_stub _ _ _ _ _ _ (eq-eqb _ _ c.if-tos-ne0.false) (eq-eqb _ _ c.if-kind-eq3.true)

pub returns-then-kind-ne1 : goal.returns-then-kind-ne1
returns-then-kind-ne1 c = link_other _ _ _ _ _ _ (ne_eqb _ _ c.if-kind-eq3.false) (ne_eqb _ _ c.if-kind-ne1.true)

pub returns-then-metric-eq0 : goal.returns-then-metric-eq0
returns-then-metric-eq0 c = link_free _ _ _ _ _ _ (ne_eqb _ _ c.if-kind-eq3.false) (eq-eqb _ _ c.if-metric-eq0.true)

pub returns : goal.returns
returns c = link_other_end _ _ _ _ _ _ (eq-eqb _ _ c.if-tos-ne0.false) (ne_eqb _ _ c.if-kind-eq3.false) (eq-eqb _ _ c.if-kind-ne1.false) (ne_eqb _ _ c.if-metric-eq0.false)
