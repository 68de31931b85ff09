-- Block i as a part of the file.
-- Assumes nothing.
use Rattle.std.proofs.Common.{◌*◌}
use Rattle.lfa.specs.File.{block_of}
use Rattle.field.specs.Laws.Part.{part_taken}
use Rattle.block.proofs.check.block_at.Goals as goal

pub returns : goal.returns
unfolding block_of
returns c = part_taken _ (512 * c.args.i) 512 c.requires
