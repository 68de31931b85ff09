-- A turn of the loop puts one block.
-- Assumes nothing.
use Rattle.std.proofs.Common.{◌≡◌, ◌*◌, ◌<◌, arith, rules}
use Rattle.lfa.specs.File.{link_blocks, ceil}
use Rattle.writer.proofs.FileLaws.{grown_none, grown_zero, grown_more}
use Rattle.writer.proofs.file.put_link_blocks.Goals as goal

pub loop-j-init : goal.loop-j-init
loop-j-init c = grown_none _ _ _ (omega arith) c.requires.1

pub link_block-requires : goal.link_block-requires
link_block-requires c =
    let l = c.loop-j in
    let within : 84 * l.j < c.args.links.now.links = omega arith in
    (grown_zero _ _ _ _ _ l.invariant (omega arith), c.requires.0, within)

pub loop-j-preserved : goal.loop-j-preserved
loop-j-preserved c =
    let l = c.loop-j in
    let within : 84 * l.j < c.args.links.now.links = omega arith in
    grown_more _ _ _ l.j l.file _ l.invariant (omega arith) c.link_block.ensures (search rules)

pub returns : goal.returns
unfolding link_blocks ceil
returns c =
    let l = c.loop-j in
    let blocks : c.div_ceil-blocks.result ≡ link_blocks c.args.links.now.links = omega arith in
    let e : l.j ≡ link_blocks c.args.links.now.links = omega arith in
    (blocks, rw (← e) l.invariant.holds)
