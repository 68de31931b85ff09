-- A turn of the loop puts one entry.
-- Assumes nothing.
use Rattle.std.proofs.Common.{◌≡◌, arith}
use Rattle.writer.proofs.TurnLaws.{labelled, link_entered}
use Rattle.writer.proofs.blocks.link_entries.Goals as goal

pub loop-i-init : goal.loop-i-init
loop-i-init c = labelled _ _ _ _ c.args.block.now _ c.requires.0 c.put_four.ensures

pub loop-i-preserved : goal.loop-i-preserved
loop-i-preserved c =
    let links = c.args.links.now in
    link_entered links.from links.to links.out links.back c.args.first _ _ c.loop-i.i _ _ c.loop-i-test.true c.requires.2 c.loop-i.invariant c.put_link.ensures

pub returns : goal.returns
returns c = let e : c.loop-i.i ≡ c.args.count = omega arith in rw e at c.loop-i.invariant.1
