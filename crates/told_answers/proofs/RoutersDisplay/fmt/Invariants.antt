-- The routers before the index are written.
use Rattle.std.proofs.Common.{take}
use Rattle.std.specs.Fmt.{HasWritten, IsPlainFormatter}
use Rattle.told_answers.specs.Texts.{routers_text}
use Rattle.told_answers.proofs.RoutersDisplay.fmt.Given as goal

abbrev pub invariant-loop-router : goal.invariant-loop-router
invariant-loop-router g l =
    IsPlainFormatter l.fn.f → HasWritten g.W.Write.write_str_gives l.fn.f (routers_text (take l.router-index l.fn.self.0.now)) l.f
