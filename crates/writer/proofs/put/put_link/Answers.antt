-- The two routers and both costs, one after the other.
-- Assumes nothing.
use Rattle.std.proofs.Common.{◌+◌, ◌∷◌, refl, ap, ◌∙◌, arith}
use Rattle.lfa.specs.FileOf.{word_bytes, link_bytes}
use Rattle.writer.specs.Put.{put_at}
use Rattle.writer.proofs.PutLaws.{put_after}
use Rattle.writer.proofs.put.put_link.Goals as goal

pub returns : goal.returns
unfolding link_bytes word_bytes
returns c =
    let a = c.args in
    let two = a.a ∷ a.b ∷ word_bytes a.out in
    c.put_word.ensures ∙ ap (put_at (a.at + 4) (word_bytes a.back)) c.put_four.ensures
    ∙ put_after a.at (a.at + 4) two (word_bytes a.back) a.bytes.now refl (omega (arith, c.requires))
