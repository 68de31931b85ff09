use Rattle.std.proofs.Common.{◌∙◌, ap₂, ◌+◌, ◌*◌, ℕ, arith}
use Rattle.ospf.specs.Lsa.{be32}
use Rattle.router_lsa.proofs.FieldLaws.{word_past, word_last}
use Rattle.router_lsa.proofs.field.be32_at.Goals as goal

pub returns-then-n-at : goal.returns-then-n-at
returns-then-n-at c = word_past _ _ c.if-n-at.true

pub returns-then-n-at-le2 : goal.returns-then-n-at-le2
returns-then-n-at-le2 c = c.word.ensures ∙ word_last _ _ _ c.be16_at-high.ensures (omega (arith, c.if-n-at-le2.true))

pub returns : goal.returns
unfolding be32
returns c = c.word-2.ensures ∙ ap₂ (λ (x y : ℕ). 65536 * x + y) c.be16_at-high.ensures c.be16_at.ensures
