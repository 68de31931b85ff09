-- A part is at most 34 bytes, and it is copied whole.
use Rattle.std.proofs.Common.{length, ap, ◌∙◌}
use Rattle.planner.specs.Copied.{copied_to}
use Rattle.planner.proofs.PartLaws.{prefix_part_short}
use Rattle.planner.proofs.planner_prefix_entry.Goals as goal

pub copy_part-requires : goal.copy_part-requires
copy_part-requires c = rw c.prefix_entry-part.ensures (prefix_part_short _ _)

pub returns : goal.returns
returns c =
    let part = c.prefix_entry-part.ensures in
    (c.copy_part.ensures.0 ∙ ap length part, c.copy_part.ensures.1 ∙ ap (copied_to _) part)
