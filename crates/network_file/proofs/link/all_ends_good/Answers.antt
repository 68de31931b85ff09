use Rattle.std.proofs.Common.{sym}
use Rattle.network_file.specs.Entry.{ends_good}
use Rattle.network_file.proofs.EveryLaws.{every_none, every_next}
use Rattle.network_file.proofs.link.all_ends_good.Goals as goal

pub loop-k-init : goal.loop-k-init
loop-k-init c = sym (every_none _)

pub loop-k-preserved : goal.loop-k-preserved
unfolding ends_good
loop-k-preserved c = every_next _ c.loop-k.k _ _ c.loop-k.invariant c.ends_good-good.ensures
