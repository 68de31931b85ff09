use Rattle.std.proofs.Common.{◌∙◌}
use Rattle.router_lsa.proofs.LsaLaws.{same_entries}
use Rattle.router_lsa.proofs.entry.same_neighbour.Goals as goal

pub returns : goal.returns
returns c = c.both_to.ensures ∙ same_entries _ _ _ _ _ c.be32_at-id.ensures c.be32_at-earlier.ensures
