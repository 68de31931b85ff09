use Rattle.router_links.proofs.GatherLaws.{no_out, no_back, nothing_added, full_more, put_more}
use Rattle.router_links.proofs.gather.add_link.Goals as goal

pub returns-then-metric-eq0 : goal.returns-then-metric-eq0
returns-then-metric-eq0 c = λ held h. nothing_added held _ _ (no_out _ _ _ _ c.if-metric-eq0.true) h

pub returns-then-other-eq0 : goal.returns-then-other-eq0
returns-then-other-eq0 c = λ held h. nothing_added held _ _ (no_back _ _ _ _ c.if-other-eq0.true) h

pub returns-then-count-ge128 : goal.returns-then-count-ge128
returns-then-count-ge128 c = λ held h. full_more held _ _ _ _ _ c.if-metric-eq0.false c.if-other-eq0.false c.if-count-ge128.true h

pub returns : goal.returns
returns c = λ held h. put_more held _ _ _ _ _ c.if-metric-eq0.false c.if-other-eq0.false c.if-count-ge128.false h
