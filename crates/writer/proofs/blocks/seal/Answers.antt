-- The check of the block, put at its end.
-- Assumes nothing.
use Rattle.std.proofs.Common.{ap, ◌∙◌}
use Rattle.lfa.specs.FileOf.{word_bytes}
use Rattle.block_check.specs.Whole.{whole}
use Rattle.writer.specs.Put.{put_at}
use Rattle.writer.proofs.blocks.seal.Goals as goal

pub returns : goal.returns
returns c =
    let block = c.args.block.now in
    let check = c.check_of-check.ensures ∙ whole block c.requires in
    c.put_word.ensures ∙ ap (λ w. put_at 510 (word_bytes w) block) check
