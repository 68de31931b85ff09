-- The entries, then the check.
-- Assumes nothing.
use Rattle.std.proofs.Common.{refl, arith}
use Rattle.writer.proofs.BlockLaws.{link_block_made}
use Rattle.writer.proofs.blocks.link_block.Goals as goal

pub returns : goal.returns
returns c =
    let links = c.args.links.now in
    link_block_made links.from links.to links.out links.back links.links c.args.j _ _ _ _ refl (omega arith) c.link_entries.ensures c.seal.ensures
