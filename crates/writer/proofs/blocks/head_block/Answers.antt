-- The label, the counts, and the check.
-- Assumes nothing.
use Rattle.writer.proofs.TurnLaws.{head_put}
use Rattle.writer.proofs.blocks.head_block.Goals as goal

pub returns : goal.returns
returns c =
    let a = c.args in
    head_put a.routers a.links a.prefixes a.block.now _ _ _ _ c.requires c.put_four.ensures c.put_four-2.ensures c.put_word.ensures c.seal.ensures
