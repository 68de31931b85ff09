use Rattle.std.proofs.Common.{◌∙◌}
use Rattle.router_lsa.proofs.LsaLaws.{good_entry}
use Rattle.router_lsa.proofs.entry.entry_good.Goals as goal

pub returns : goal.returns
returns c = c.link_good.ensures ∙ good_entry _ _ _ _ _ c.requires.1 c.be32_at-id.ensures c.be16_at-metric.ensures
