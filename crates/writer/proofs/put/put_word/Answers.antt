-- Two bytes, the least one first.
-- Assumes nothing.
use Rattle.std.proofs.Common.{◌≡◌, ℕ, ◌+◌, ◌/◌, ◌%◌, ◌<◌, ◌≤◌, length, set, arith}
use Rattle.lfa.specs.File.{Bytes}
use Rattle.lfa.specs.FileOf.{word_bytes}
use Rattle.writer.specs.Put.{put_at}
use Rattle.writer.proofs.PutLaws.{put_two}
use Rattle.writer.proofs.put.put_word.Goals as goal

stored : (at word : ℕ) (b : Bytes) → word < 65536 → at + 2 ≤ length b → set (set b at (word % 256)) (at + 1) (word / 256 % 256) ≡ put_at at (word_bytes word) b
unfolding word_bytes
stored at word b h fits =
    let high : word / 256 % 256 ≡ word / 256 = omega arith in
    rw high (put_two at (word % 256) (word / 256) b fits)

pub returns : goal.returns
returns c = rw c.to_le_bytes.ensures (stored c.args.at c.args.word c.args.bytes.now (omega arith) c.requires)
