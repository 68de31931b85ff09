use Rattle.std.proofs.Common.{arith}
use Rattle.network_file.proofs.PlaceLaws.{place_inside}
use Rattle.network_file.proofs.PrefixLaws.{prefix_tested}
use Rattle.network_file.proofs.prefix.fn.first_bad_prefix.first_failing.Goals as goal

pub entry_at-requires : goal.entry_at-requires
entry_at-requires c = place_inside _ _ c.requires.0 c.requires.1

pub sound_prefix-requires : goal.sound_prefix-requires
sound_prefix-requires c =
    let s = c.requires.1.sized in
    (c.entry_at.ensures.1, omega (arith, c.requires.2, s.some_routers), omega (arith, c.requires.2, s.few_routers), c.requires.3)

pub returns : goal.returns
returns c = λ p there. prefix_tested _ _ _ p c.requires.2 (c.entry_at.ensures.0 p there.at_place) c.sound_prefix.ensures
