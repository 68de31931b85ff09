use Rattle.std.proofs.Common.{◌∙◌, ◌+◌, ◌*◌, ◌≡◌, arith, get_or}
use Rattle.lfa.specs.File.{byte_at}
use Rattle.ospf.specs.Lsa.{be16}
use Rattle.router_lsa.proofs.FieldLaws.{half_past, half_last}
use Rattle.router_lsa.proofs.field.be16_at.Goals as goal

pub returns-then-n-at : goal.returns-then-n-at
returns-then-n-at c = half_past _ _ c.if-n-at.true

pub returns-then-n-next : goal.returns-then-n-next
returns-then-n-next c =
    let e : c.from_be_bytes.result ≡ 256 * get_or c.args.s.now c.args.at 0 + 0 = omega (arith, c.from_be_bytes.ensures) in
    e ∙ half_last _ _ c.if-n-next.true

pub returns : goal.returns
unfolding be16 byte_at
returns c = omega (arith, c.from_be_bytes-2.ensures)
