use Rattle.field.specs.Laws.Part.{part_taken}
use Rattle.network_file.proofs.PlaceLaws.{place_there}
use Rattle.network_file.proofs.prefix.entry_at.Goals as goal

pub returns : goal.returns
returns c = let taken = part_taken _ _ 34 c.requires in (λ p is. place_there _ _ p is taken.0, taken.1)
