use Rattle.network_file.proofs.PlaceLaws.{place_inside}
use Rattle.network_file.proofs.PrefixLaws.{slots_there, routers_tested}
use Rattle.network_file.proofs.prefix.fn.first_router_twice.first_failing.Goals as goal

pub entry_at-requires : goal.entry_at-requires
entry_at-requires c = place_inside _ _ c.requires.0 c.requires.1

pub new_routers-requires : goal.new_routers-requires
new_routers-requires c =
    let there = c.requires.1 in
    slots_there _ _ c.requires.0 there.sized (c.entry_at.ensures.0 _ there.at_place) c.entry_at.ensures.1 c.requires.2

pub returns : goal.returns
returns c = λ p there. routers_tested _ _ p (c.entry_at.ensures.0 p there.at_place) c.new_routers.ensures
