-- `link_entry` is the entry of a link of an accepted file, and empty for anything else.
use Rattle.std.proofs.Common.{◌<◌, ◌∙◌, sym, arith}
use Rattle.lfa.specs.File.{links_of, link_entry}
use Rattle.block.specs.Judged.{Sized}
use Rattle.network_file.proofs.LinkLaws.{link_inside}
use Rattle.entries.proofs.PartLaws.{link_sized, is_link_part, no_link}
use Rattle.entries.proofs.link_entry.Goals as goal
use Rattle.entries.proofs.link_entry.Goals.{Else-links-link}

-- the link is one of an accepted file, so that its entry lies inside the file
named : (c : Else-links-link) → let a = c.args in Sized a.file.now × (a.link < links_of a.file.now)
named c = link_sized _ _ (omega (arith, c.count_at-links.ensures))

pub returns-then-links-link : goal.returns-then-links-link
returns-then-links-link c = sym (no_link _ _ (omega (arith, c.count_at-links.ensures)))

pub overflow_mul-link : goal.overflow_mul-link
overflow_mul-link c = let k = named c in omega (arith, k.1, k.0.few_links)

pub overflow_add-link-2 : goal.overflow_add-link-2
overflow_add-link-2 c = let k = named c in omega (arith, k.1, k.0.few_links)

pub overflow_add-link-3 : goal.overflow_add-link-3
overflow_add-link-3 c = let k = named c in omega (arith, k.1, k.0.few_links)

pub part_at-requires : goal.part_at-requires
part_at-requires c = let k = named c in omega (arith, link_inside _ k.0 _ k.1)

pub returns : goal.returns
unfolding link_entry
returns c = c.part_at.ensures ∙ is_link_part _ _ (omega (arith, c.count_at-links.ensures))
