use Rattle.std.proofs.Common.{◌∙◌, arith}
use Rattle.ospf.specs.Lsa.{links_field, router_field}
use Rattle.router_lsa.proofs.LsaLaws.{not_filled, other_type_lem, no_checksum, wrong_sums_lem, bad_entries, rest_sound}
use Rattle.router_lsa.proofs.lsa.sound_lsa.Goals as goal

pub returns-then-l-links : goal.returns-then-l-links
unfolding links_field
returns-then-l-links c = not_filled _ c.requires.0 c.requires.1 _ (c.from-links.ensures ∙ c.be16_at.ensures) c.if-l-links.true

pub returns-then-l-ne1 : goal.returns-then-l-ne1
returns-then-l-ne1 c = other_type_lem _ c.requires.0 c.requires.1 c.if-l-ne1.true

pub returns-then-be16_at-eq0 : goal.returns-then-be16_at-eq0
returns-then-be16_at-eq0 c = no_checksum _ c.requires.0 c.requires.1 _ c.be16_at-2.ensures c.if-be16_at-eq0.true

pub returns-then-not-sums_zero : goal.returns-then-not-sums_zero
returns-then-not-sums_zero c = wrong_sums_lem _ c.requires.0 c.requires.1 _ c.sums_zero.ensures c.if-not-sums_zero.true

pub entries_good-requires : goal.entries_good-requires
unfolding router_field
entries_good-requires c = (omega (arith, c.if-l-links.false), c.be32_at.ensures)

pub returns-then-not-entries_good : goal.returns-then-not-entries_good
unfolding links_field
returns-then-not-entries_good c =
    bad_entries _ c.requires.0 c.requires.1 _ _ (c.from-links.ensures ∙ c.be16_at.ensures) c.entries_good.ensures c.if-not-entries_good.true

pub returns : goal.returns
unfolding links_field
returns c =
    rest_sound _ c.requires.0 c.requires.1 _ _ _ _ _ (c.from-links.ensures ∙ c.be16_at.ensures) c.if-l-links.false c.if-l-ne1.false c.be16_at-2.ensures c.if-be16_at-eq0.false
    c.sums_zero.ensures c.if-not-sums_zero.false c.entries_good.ensures c.if-not-entries_good.false c.entries_new.ensures
