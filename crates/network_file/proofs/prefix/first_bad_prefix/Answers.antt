-- That the masks are those of the rule is computed at once over the whole table.
use Rattle.std.proofs.Common.{refl, arith}
use Rattle.lfa.specs.Lists.{below, count_up}
use Rattle.lfa.specs.File.{prefix_good}
use Rattle.network_file.specs.Entry.{unused_mask, unused_masks}
use Rattle.network_file.proofs.LinkLaws.{few_links, routers_read, prefixes_read, entry_there}
use Rattle.network_file.proofs.prefix.first_bad_prefix.Goals as goal

pub first_failing-requires : goal.first_failing-requires
unfolding unused_masks unused_mask below count_up
first_failing-requires c =
    let of = c.requires in
    (few_links _ _ of, omega (arith, prefixes_read _ _ of, of.sized.few_prefixes), λ p h. (p, entry_there _ _ of _ p refl h, routers_read _ _ of, refl))

pub returns : goal.returns
returns c = c.first_failing.ensures (prefix_good c.args.file.now) (λ p r h e. e p (entry_there _ _ c.requires _ p refl h))
