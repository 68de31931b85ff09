-- The arc is stored in the cell after those listed.
use Rattle.std.proofs.Common.{sym, ◌∙◌, arith}
use Rattle.search.proofs.HopLaws.{first_put}
use Rattle.search.proofs.hops.FirstHops.put.Goals as goal

pub returns-then-leaves : goal.returns-then-leaves
returns-then-leaves c =
    let a = c.args in
    rw (sym c.leaves.ensures ∙ c.if-leaves.true) (first_put a.arc a.self.now.count a.self.now.arcs (omega (arith, c.requires)))
