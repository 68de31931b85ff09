-- The entries, then the check.
-- Assumes nothing.
use Rattle.std.proofs.Common.{refl, arith}
use Rattle.writer.proofs.BlockLaws.{prefix_block_made}
use Rattle.writer.proofs.blocks.prefix_block.Goals as goal

pub prefix_entries-requires : goal.prefix_entries-requires
prefix_entries-requires c = (c.requires.0, omega arith, omega arith, λ p l. c.requires.4 p (omega arith))

pub returns : goal.returns
returns c =
    let network = c.args.network.now in
    prefix_block_made network.attached network.at network.own network.links.prefixes c.args.ahead c.args.j _ _ _ _ refl (omega arith) c.requires.4
    c.prefix_entries.ensures c.seal.ensures
