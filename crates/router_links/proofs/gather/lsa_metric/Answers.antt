use Rattle.std.proofs.Common.{ℕ, List, ap₂, ◌∙◌}
use Rattle.router_links.specs.Read.{metric_to}
use Rattle.router_links.proofs.gather.lsa_metric.Goals as goal

pub returns : goal.returns
returns c = c.metric_to.ensures ∙ ap₂ (λ (l : List ℕ) (n : ℕ). metric_to l n c.args.to) c.lsa_at-links.ensures.lsa c.lsa_at-links.ensures.links
