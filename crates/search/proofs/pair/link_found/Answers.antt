-- The distances to E are read first.
use Rattle.std.proofs.Common.{sym, ◌∙◌}
use Rattle.search.specs.Calls.{link_if, link_for}
use Rattle.search.proofs.pair.link_found.Goals as goal

pub returns : goal.returns
unfolding link_if link_for
returns c = rw (sym c.can_search.ensures ∙ c.if-not-can_search.false) (rw (c.avoiding_to.ensures, c.towards_router-target.ensures) at c.pair_found.ensures)
