use Rattle.std.proofs.Common.{◌∙◌}
use Rattle.router_lsa.proofs.NewLaws.{later_ready, named_first}
use Rattle.router_lsa.proofs.scan.router_new.Goals as goal

pub new_later-requires : goal.new_later-requires
new_later-requires c =
    let r = later_ready _ _ _ _ _ c.requires.1 _ c.min-held.ensures _ c.new_among.ensures c.if-new_among.true in
    (c.requires.0, r.0, r.1, r.2)

pub returns-else-new_among : goal.returns-else-new_among
returns-else-new_among c =
    c.if-new_among.false ∙ named_first _ _ _ _ _ c.requires.1 _ c.min-held.ensures _ c.new_among.ensures c.if-new_among.false
