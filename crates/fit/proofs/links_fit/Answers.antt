use Rattle.std.proofs.Common.{◌≡◌, arith}
use Rattle.fit.proofs.FitLaws.{links_many, links_none, links_told}
use Rattle.fit.proofs.links_fit.Goals as goal

pub returns-then-links-gt128 : goal.returns-then-links-gt128
returns-then-links-gt128 c = links_many _ _ _ _ c.if-links-gt128.true

pub returns-then-links-eq0 : goal.returns-then-links-eq0
returns-then-links-eq0 c = links_none _ _ _ _ c.if-links-eq0.true

pub returns : goal.returns
returns c =
    let a = c.args in
    let e : c.loop-k.k ≡ a.links.now.links = omega arith in
    rw c.from.ensures (links_told _ _ _ _ (omega arith) (omega arith) (rw e at c.loop-k.invariant))
