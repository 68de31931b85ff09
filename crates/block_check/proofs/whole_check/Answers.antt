-- A turn of the loop adds four words of each part.
-- Assumes nothing.
use Rattle.std.proofs.Common.{◌∙◌, arith}
use Rattle.lfa.specs.File.{check_of}
use Rattle.block_check.proofs.CheckLaws.{check_none, check_more, check_all}
use Rattle.block_check.proofs.whole_check.Goals as goal

pub loop-i-init : goal.loop-i-init
loop-i-init c = c.rest_of-sum.ensures ∙ check_none c.args.block.now

pub loop-i-preserved : goal.loop-i-preserved
loop-i-preserved c = check_more c.loop-i.i _ _ c.args.block.now c.loop-i.invariant c.parts_at-sum.ensures

pub returns : goal.returns
unfolding check_of
returns c = c.loop-i.invariant ∙ check_all c.loop-i.i _ (omega arith)
