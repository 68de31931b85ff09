use Rattle.std.proofs.Common.{refl, arith}
use Rattle.lfa.specs.File.{routers_new}
use Rattle.network_file.proofs.LinkLaws.{few_links, prefixes_read, entry_there}
use Rattle.network_file.proofs.prefix.first_router_twice.Goals as goal

pub first_failing-requires : goal.first_failing-requires
first_failing-requires c =
    let of = c.requires.0 in
    (few_links _ _ of, omega (arith, prefixes_read _ _ of, of.sized.few_prefixes), λ p h. (p, entry_there _ _ of _ p refl h, c.requires.1 p h))

pub returns : goal.returns
returns c = c.first_failing.ensures (routers_new c.args.file.now) (λ p r h e. e p (entry_there _ _ c.requires.0 _ p refl h))
