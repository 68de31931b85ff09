-- Two bytes, and a field after them.
-- Assumes nothing.
use Rattle.std.proofs.Common.{◌∙◌, arith}
use Rattle.lfa.specs.FileOf.{word_bytes}
use Rattle.writer.proofs.PutLaws.{put_two_more}
use Rattle.writer.proofs.put.put_four.Goals as goal

pub returns : goal.returns
unfolding word_bytes
returns c = let a = c.args in c.put_word.ensures ∙ put_two_more a.at a.first a.second (word_bytes a.word) a.bytes.now (omega (arith, c.requires))
