use Rattle.std.proofs.Common.{◌∙◌, arith}
use Rattle.router_lsa.proofs.RunLaws.{next_short, next_small, next_cut, cut_long, part_uncut, next_unsound, next_named, next_good}
use Rattle.router_lsa.proofs.scan.lsa_good.Goals as goal

pub returns-then-run-at-lt24 : goal.returns-then-run-at-lt24
returns-then-run-at-lt24 c = next_short _ _ _ c.requires.2 c.if-run-at-lt24.true

pub returns-then-size-lt24 : goal.returns-then-size-lt24
returns-then-size-lt24 c = next_small _ _ _ c.requires.2 _ (c.from-size.ensures ∙ c.be16_at.ensures) c.if-size-lt24.true

pub returns-then-run-at : goal.returns-then-run-at
returns-then-run-at c = next_cut _ _ _ c.requires.2 _ (c.from-size.ensures ∙ c.be16_at.ensures) c.if-run-at.true

pub sound_lsa-requires : goal.sound_lsa-requires
sound_lsa-requires c =
    let e = c.from-size.ensures ∙ c.be16_at.ensures in (
      omega (arith, cut_long _ _ _ c.requires.2 _ e c.if-size-lt24.false (omega (arith, c.if-run-at.false, c.requires.3)), c.if-size-lt24.false),
      part_uncut _ _ _ c.requires.2 _ e c.if-size-lt24.false (omega (arith, c.if-run-at.false, c.requires.3)),
    )

pub returns-then-not-sound_lsa : goal.returns-then-not-sound_lsa
returns-then-not-sound_lsa c =
    next_unsound _ _ _ c.requires.2 _ (c.from-size.ensures ∙ c.be16_at.ensures) c.if-size-lt24.false (omega (arith, c.if-run-at.false, c.requires.3)) _
    c.sound_lsa.ensures c.if-not-sound_lsa.true

pub returns-then-not-router_new : goal.returns-then-not-router_new
returns-then-not-router_new c =
    next_named _ _ _ c.requires.2 _ (c.from-size.ensures ∙ c.be16_at.ensures) c.if-size-lt24.false (omega (arith, c.if-run-at.false, c.requires.3)) _ _
    c.be32_at.ensures c.router_new.ensures c.if-not-router_new.true

pub returns : goal.returns
returns c =
    next_good _ _ _ c.requires.2 _ (c.from-size.ensures ∙ c.be16_at.ensures) c.if-size-lt24.false (omega (arith, c.if-run-at.false, c.requires.3)) _ _ _
    c.sound_lsa.ensures c.if-not-sound_lsa.false c.be32_at.ensures c.router_new.ensures c.if-not-router_new.false
