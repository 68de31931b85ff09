-- So many links are drawn into the columns.
-- Assumes nothing.
use Rattle.drill.proofs.DrawLaws.{Drawing}
use Rattle.drill.proofs.draw_links.Given as goal

abbrev pub invariant-loop-i : goal.invariant-loop-i
invariant-loop-i l = Drawing l.seed l.n l.i l.drawn l.from l.to l.out l.back
