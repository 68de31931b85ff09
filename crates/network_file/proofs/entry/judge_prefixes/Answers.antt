-- `judge_prefixes` answers with the first of rows 8 and 9 that applies.
use Rattle.network_file.specs.Load.{fault_row, verdict_decided}
use Rattle.network_file.proofs.EntryLaws.{sound_prefixes, bad_prefix_decides, twice_decides, no_prefix_decides}
use Rattle.network_file.proofs.entry.judge_prefixes.Goals as goal

pub returns-in-Some : goal.returns-in-Some
unfolding verdict_decided fault_row
returns-in-Some c = bad_prefix_decides _ _ c.requires c.in-Some.ensures

pub first_router_twice-requires : goal.first_router_twice-requires
first_router_twice-requires c = (c.requires, sound_prefixes _ _ c.requires c.in_default.ensures)

pub returns-in-Some-first_router_twice : goal.returns-in-Some-first_router_twice
unfolding verdict_decided fault_row
returns-in-Some-first_router_twice c = twice_decides _ _ c.requires c.in_default.ensures c.in-Some-first_router_twice.ensures

pub returns : goal.returns
unfolding verdict_decided
returns c = no_prefix_decides _ _ c.requires c.in_default.ensures c.in_default-first_router_twice.ensures
