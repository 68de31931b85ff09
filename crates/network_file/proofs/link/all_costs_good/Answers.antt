use Rattle.std.proofs.Common.{sym}
use Rattle.network_file.proofs.EveryLaws.{every_none}
use Rattle.network_file.proofs.LinkRowLaws.{least_more}
use Rattle.network_file.proofs.link.all_costs_good.Goals as goal

pub loop-k-init : goal.loop-k-init
loop-k-init c = sym (every_none _)

pub loop-k-preserved : goal.loop-k-preserved
loop-k-preserved c = least_more _ c.loop-k.k c.loop-k.least c.loop-k.invariant c.min.ensures c.min-least.ensures
