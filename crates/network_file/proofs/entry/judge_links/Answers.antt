-- `judge_links` answers with the first of rows 6 and 7 that applies.
use Rattle.network_file.specs.Load.{fault_row, verdict_decided}
use Rattle.network_file.proofs.LinkRowLaws.{ends_below}
use Rattle.network_file.proofs.EntryLaws.{bad_link_decides, parallel_decides, no_link_decides}
use Rattle.network_file.proofs.entry.judge_links.Goals as goal

pub returns-in-Some : goal.returns-in-Some
unfolding verdict_decided fault_row
returns-in-Some c = λ b of. bad_link_decides b _ of c.in-Some.ensures

pub parallel_link-requires : goal.parallel_link-requires
parallel_link-requires c = (c.requires, ends_below _ c.requires c.in_default.ensures)

pub returns-in-Some-parallel_link : goal.returns-in-Some-parallel_link
unfolding verdict_decided fault_row
returns-in-Some-parallel_link c = λ b of. parallel_decides b _ of c.in_default.ensures c.in-Some-parallel_link.ensures

pub returns : goal.returns
unfolding verdict_decided
returns c = λ b of. no_link_decides b _ of c.in_default.ensures c.in_default-parallel_link.ensures
