-- The first block is lent.
-- Assumes nothing.
use Rattle.std.proofs.Common.{[], refl, arith, rules}
use Rattle.writer.proofs.FileLaws.{zero_part, first_put}
use Rattle.writer.proofs.file.put_head.Goals as goal

pub head_block-requires : goal.head_block-requires
head_block-requires c = zero_part [] c.args.file.now 0 512 c.requires.3 refl refl (omega arith)

pub returns : goal.returns
returns c = first_put _ c.args.file.now _ c.requires.3 c.head_block.ensures (search rules)
