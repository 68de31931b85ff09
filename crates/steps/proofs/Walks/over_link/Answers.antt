use Rattle.steps.proofs.CrossingLaws.{both_ends}
use Rattle.steps.proofs.Walks.over_link.Goals as goal

pub returns : goal.returns
returns c = both_ends _ _ _ c.is_step.ensures c.one_if-out.ensures c.is_step-2.ensures c.one_if-back.ensures
