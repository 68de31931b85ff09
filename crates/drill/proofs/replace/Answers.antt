-- A wrapping product and sum are taken modulo 2 to the power 32.
-- Assumes nothing.
use Rattle.std.proofs.Common.{arith}
use Rattle.lfa.specs.Drill.{replaced}
use Rattle.drill.proofs.replace.Goals as goal

pub returns : goal.returns
unfolding replaced
returns c = omega arith
