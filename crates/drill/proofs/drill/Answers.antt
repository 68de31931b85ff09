-- Outside 3 to 64 nothing is owed, and else what `write` owes for the drill.
-- Assumes nothing.
use Rattle.std.proofs.Common.{arith}
use Rattle.lfa.proofs.Laws.Drill.{too_few_lem, too_many, drilled}
use Rattle.drill.proofs.drill.Goals as goal

pub returns-then-routers-lt3 : goal.returns-then-routers-lt3
returns-then-routers-lt3 c = too_few_lem _ _ (omega arith) _

pub returns-then-routers-gt64 : goal.returns-then-routers-gt64
returns-then-routers-gt64 c = too_many _ _ (omega arith) _

pub returns : goal.returns
returns c = drilled _ _ (omega arith) (omega arith) c.network_of.ensures c.write.ensures
