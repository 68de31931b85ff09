-- The upper bits are those above the lower 16.
-- Assumes nothing.
use Rattle.std.proofs.Common.{refl}
use Rattle.lfa.specs.Drill.{upper_bits}
use Rattle.drill.proofs.cost_of.Goals as goal

pub returns : goal.returns
unfolding upper_bits
returns c = refl
