-- The reader is asked, the lengths are compared, and the file is copied.
-- Assumes nothing.
use Rattle.std.proofs.Common.{sym, ◌∙◌, arith}
use Rattle.writer.proofs.WriteLaws.{passed, turned_away, refused, shorter, accepted}
use Rattle.writer.proofs.write_accepted.Goals as goal

pub returns-then-not-accepted : goal.returns-then-not-accepted
returns-then-not-accepted c = λ net counts is. refused _ _ net is (turned_away _ _ c.judge.ensures (sym c.is_ok-accepted.ensures.value ∙ c.if-not-accepted.true))

pub returns-then-buffer-size : goal.returns-then-buffer-size
returns-then-buffer-size c = λ net counts is. shorter _ _ net is c.if-buffer-size.true

pub returns : goal.returns
returns c =
    λ net counts is. accepted _ _ net is _ counts (λ i. omega (arith, c.type_inv.file i))
    (passed _ _ c.judge.ensures (sym c.is_ok-accepted.ensures.value ∙ c.if-not-accepted.false)) c.if-buffer-size.false c.put_bytes.ensures
