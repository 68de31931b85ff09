-- Four bytes as one number: its two lanes are two words.
-- Assumes nothing.
use Rattle.std.proofs.Common.{rules}
use Rattle.lfa.specs.File.{byte_at, word_at}
use Rattle.block_check.proofs.half_at.Goals as goal

pub returns : goal.returns
unfolding word_at byte_at
returns c = search rules
