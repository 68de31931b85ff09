-- The column of first hops holds those of the network.
use Rattle.std.proofs.Common.{sym, ◌∙◌}
use Rattle.search.specs.Spaces.{space_for}
use Rattle.search.specs.Calls.{space_if}
use Rattle.search.proofs.HopLaws.{listed_hops}
use Rattle.search.proofs.space.space_of.Goals as goal

pub returns-in-ExtendedP : goal.returns-in-ExtendedP
unfolding space_if space_for
returns-in-ExtendedP c =
    let firsts = listed_hops _ _ _ _ _ _ _ _ c.first_hops.ensures in
    rw (c.in-ExtendedP.is, sym c.can_search.ensures ∙ c.if-not-can_search.false, ← firsts) (c.extended_p.ensures _ _)
