-- A turn of the loop puts one block.
-- Assumes nothing.
use Rattle.std.proofs.Common.{◌≡◌, ◌*◌, ◌<◌, arith, rules}
use Rattle.lfa.specs.File.{prefix_blocks, ceil}
use Rattle.writer.proofs.FileLaws.{grown_none, grown_zero, grown_more}
use Rattle.writer.proofs.file.put_prefix_blocks.Goals as goal

pub loop-j-init : goal.loop-j-init
loop-j-init c = grown_none _ _ _ (omega (arith, c.requires.1)) c.requires.2

pub prefix_block-requires : goal.prefix_block-requires
prefix_block-requires c =
    let l = c.loop-j in
    let within : 14 * l.j < c.args.network.now.links.prefixes = omega arith in
    (grown_zero _ _ _ _ _ l.invariant (omega (arith, c.requires.1)), c.requires.0, within, c.requires.1, c.requires.3)

pub loop-j-preserved : goal.loop-j-preserved
loop-j-preserved c =
    let l = c.loop-j in
    let within : 14 * l.j < c.args.network.now.links.prefixes = omega arith in
    grown_more _ _ _ l.j l.file _ l.invariant (omega (arith, c.requires.1)) c.prefix_block.ensures (search rules)

pub returns : goal.returns
unfolding prefix_blocks ceil
returns c =
    let l = c.loop-j in
    let blocks : c.div_ceil-blocks.result ≡ prefix_blocks c.args.network.now.links.prefixes = omega arith in
    let e : l.j ≡ prefix_blocks c.args.network.now.links.prefixes = omega arith in
    (blocks, rw (← e) l.invariant.holds)
