-- `count_at` is the count of the network that a file holds.
use Rattle.std.proofs.Common.{◌∙◌}
use Rattle.network_file.specs.Load.{verdict_decided}
use Rattle.entries.proofs.PartLaws.{count_accepted, count_refused}
use Rattle.entries.proofs.count_at.Goals as goal

pub returns-in-Ok : goal.returns-in-Ok
unfolding verdict_decided
returns-in-Ok c = c.from.ensures ∙ c.word_at.ensures ∙ count_accepted _ _ c.in-Ok.ensures

pub returns-in-Err : goal.returns-in-Err
unfolding verdict_decided
returns-in-Err c = count_refused _ _ c.in-Err.ensures
