-- The three words left over.
-- Assumes nothing.
use Rattle.std.proofs.Common.{refl}
use Rattle.block_check.proofs.CheckLaws.{rest_sum}
use Rattle.block_check.proofs.rest_of.Goals as goal

pub returns : goal.returns
returns c = rest_sum _ _ _ _ _ c.word_at.ensures c.word_at-2.ensures c.word_at-3.ensures refl
