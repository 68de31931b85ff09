-- `best` is the endpoint of the first of the pairs with endpoints before y, and `least` its key.
use Rattle.arcs.specs.Arcs.{hop_in}
use Rattle.search.proofs.EndLaws.{EndAt}
use Rattle.search.proofs.pair.Sought.first_end.Given as goal

abbrev pub invariant-loop-y : goal.invariant-loop-y
invariant-loop-y l =
    let s = l.self in
    EndAt s.ranks.now s.area.n s.area.cells.now s.protected.near s.protected.far s.target.now (hop_in l.hop) l.protecting l.endpoints l.y l.best l.least
