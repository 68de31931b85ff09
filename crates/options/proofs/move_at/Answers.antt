use Rattle.options.specs.Options.{move_in}
use Rattle.options.proofs.MoveLaws.{move_none, move_taken}
use Rattle.options.proofs.move_at.Goals as goal

pub returns-then-x-ge64 : goal.returns-then-x-ge64
unfolding move_in
returns-then-x-ge64 c = move_none _ _ _ _ _ c.if-x-ge64.true

pub returns : goal.returns
returns c = move_taken _ _ _ _ _ c.if-x-ge64.false c.delivers-deliver.ensures c.option_taken.ensures
