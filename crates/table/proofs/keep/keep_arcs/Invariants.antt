use Rattle.table.specs.Rows.{Over, Kept}
use Rattle.table.proofs.keep.keep_arcs.Given as goal

-- no arc of the links before k is below its cell, and those that cost as much are kept
abbrev pub invariant-loop-k : goal.invariant-loop-k
invariant-loop-k l = Kept (Over l.links.from l.links.to l.links.out l.links.back l.k) l.area.n l.area.cells.now l.heads
