-- `part_at` is the part of the file that starts at the place.
use Rattle.field.specs.Laws.Part.{part_taken}
use Rattle.entries.proofs.part_at.Goals as goal

pub returns : goal.returns
returns c = (part_taken _ _ _ c.requires).0
