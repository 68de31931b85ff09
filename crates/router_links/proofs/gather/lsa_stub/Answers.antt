use Rattle.std.proofs.Common.{ℕ, List, ap₂, ◌∙◌}
use Rattle.router_links.specs.Read.{stub_least}
use Rattle.router_links.proofs.gather.lsa_stub.Goals as goal

pub returns : goal.returns
returns c = c.stub_least.ensures ∙ ap₂ (λ (l : List ℕ) (n : ℕ). stub_least c.args.key 65536 l 0 n) c.lsa_at-links.ensures.lsa c.lsa_at-links.ensures.links
