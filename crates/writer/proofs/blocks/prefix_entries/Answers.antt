-- A turn of the loop puts one entry.
-- Assumes nothing.
use Rattle.std.proofs.Common.{◌≡◌, ◌+◌, arith}
use Rattle.writer.proofs.TurnLaws.{labelled, prefix_entered}
use Rattle.writer.proofs.blocks.prefix_entries.Goals as goal

pub loop-i-init : goal.loop-i-init
loop-i-init c = labelled _ _ _ _ c.args.block.now _ c.requires.0 c.put_four.ensures

pub put_prefix-requires : goal.put_prefix-requires
put_prefix-requires c =
    (omega (arith, c.requires.2, c.loop-i.invariant.0), omega (arith, c.from.ensures, c.requires.3 (c.args.first + c.loop-i.i) (omega arith)), omega (arith, c.requires.1))

pub loop-i-preserved : goal.loop-i-preserved
loop-i-preserved c =
    let network = c.args.network.now in
    prefix_entered network.attached network.at network.own c.args.first _ _ c.loop-i.i _ _ c.loop-i-test.true c.requires.2 c.requires.3 c.loop-i.invariant
    (rw c.from.ensures at c.put_prefix.ensures)

pub returns : goal.returns
returns c = let e : c.loop-i.i ≡ c.args.count = omega arith in rw e at c.loop-i.invariant.1
