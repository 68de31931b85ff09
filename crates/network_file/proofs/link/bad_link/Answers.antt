use Rattle.network_file.proofs.LinkRowLaws.{none_bad}
use Rattle.network_file.proofs.link.bad_link.Goals as goal

pub returns-then-all_costs_good : goal.returns-then-all_costs_good
returns-then-all_costs_good c = none_bad _ c.if-all_ends_good.ensures c.if-all_costs_good.ensures
