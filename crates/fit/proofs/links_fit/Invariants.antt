-- The loop of `links_fit` has found the largest number of the links before k.
use Rattle.fit.proofs.FitLaws.{Largest}
use Rattle.fit.proofs.links_fit.Given as goal

abbrev pub invariant-loop-k : goal.invariant-loop-k
invariant-loop-k l = Largest l.n l.k l.links.from l.links.to l.top
