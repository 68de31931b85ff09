use Rattle.std.proofs.Common.{arith}
use Rattle.std.proofs.lemmas.Grind.{common_steps}
use Rattle.network_file.proofs.PrefixLaws.{entry_tested}
use Rattle.network_file.proofs.prefix.sound_prefix.Goals as goal

pub returns-then-routers_below : goal.returns-then-routers_below
returns-then-routers_below c =
    let t = entry_tested c.args.routers c.args.entry.now c.from-count.result c.from-count.ensures c.requires.0 c.requires.1 c.requires.2 in
    grind (arith, common_steps, t, c.unused_zero.ensures)

pub returns-else-routers_below : goal.returns-else-routers_below
returns-else-routers_below c =
    let t = entry_tested c.args.routers c.args.entry.now c.from-count.result c.from-count.ensures c.requires.0 c.requires.1 c.requires.2 in
    grind (arith, common_steps, t)
