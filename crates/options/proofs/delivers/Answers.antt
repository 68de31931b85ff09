use Rattle.std.proofs.Common.{ap, ℕ, ◌/◌, ◌^◌, lt-ltb, le-ltb, eqb}
use lib.Bits.{and_mask}
use Rattle.lfa.specs.Space.{has}
use Rattle.options.specs.Options.{delivers_by}
use Rattle.options.proofs.delivers.Goals as goal

pub returns-then-target-x-lt-UNREACHABLE : goal.returns-then-target-x-lt-UNREACHABLE
unfolding delivers_by has
returns-then-target-x-lt-UNREACHABLE c = rw (lt-ltb _ _ c.if-target-x-lt-UNREACHABLE.true) (ap (λ (k : ℕ). eqb k 1) (and_mask (c.args.ends / 2 ^ c.args.x) 1))

pub returns-else-target-x-lt-UNREACHABLE : goal.returns-else-target-x-lt-UNREACHABLE
unfolding delivers_by
returns-else-target-x-lt-UNREACHABLE c = rw (le-ltb _ _ c.if-target-x-lt-UNREACHABLE.false)
