-- The search for the first block that is not as the head wants it.
-- Assumes nothing.
use Rattle.std.proofs.Common.{◌-◌, sym, ◌∙◌, arith}
use Rattle.block.specs.Laws.First.{passed_more, first_found, none_found}
use Rattle.block.proofs.BlockLaws.{sound_good}
use Rattle.block.proofs.later.first_bad_block.Goals as goal

pub returns-then-not-block_good : goal.returns-then-not-block_good
returns-then-not-block_good c =
    let good = sound_good c.args.file.now _ _ _ _ c.requires.3 c.requires.4 c.block_good.ensures in
    first_found _ _ _ _ c.loop-i.invariant (omega arith) (omega arith) (sym good ∙ c.if-not-block_good.true)

pub loop-i-preserved : goal.loop-i-preserved
loop-i-preserved c =
    let good = sound_good c.args.file.now _ _ _ _ c.requires.3 c.requires.4 c.block_good.ensures in
    passed_more _ 1 (c.args.blocks - 1) _ c.loop-i.invariant (sym good ∙ c.if-not-block_good.false)

pub returns : goal.returns
returns c = none_found _ _ _ _ c.loop-i.invariant (omega arith)
