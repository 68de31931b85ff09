-- Neither factor is more than 64.
use Rattle.std.proofs.Common.{mul-le-mul, arith, ◌≤◌}
use Rattle.told.proofs.lent.cells_of.Goals as goal

pub returns-clause-bound : goal.returns-clause-bound
returns-clause-bound c = let few : c.min-side.result ≤ 64 = omega arith in omega (arith, mul-le-mul few few)
