-- Before the first turn the whole part is still to be stored.
use Rattle.std.proofs.Common.{refl}
use Rattle.planner.specs.Copied.{copied_to}
use Rattle.planner.proofs.copy.copy_part.Goals as goal

pub loop-i-init : goal.loop-i-init
unfolding copied_to
loop-i-init c = refl
