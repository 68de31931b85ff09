-- Eight bytes as one number: the lanes of its two halves are four words.
-- Assumes nothing.
use Rattle.std.proofs.Common.{◌∙◌, arith}
use Rattle.block_check.proofs.CheckLaws.{sum_four}
use Rattle.block_check.proofs.LanesLaws.{lanes_of_halves}
use Rattle.block_check.proofs.long_at.Goals as goal

pub returns : goal.returns
returns c = lanes_of_halves _ _ _ (omega arith) c.long_of.ensures ∙ omega (arith, sum_four c.args.at c.args.s.now)
