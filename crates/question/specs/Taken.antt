-- What the repair part takes from the file part: an accepted file, and the links of its network by value.
-- Assumes nothing.
use Rattle.std.specs.Prelude.{◌≡◌}
use Rattle.lfa.specs.File.{Bytes, network_of}
use Rattle.lfa.specs.Refusal.{Accepted}
use Rattle.metric.specs.declared.columns.Links.{Links}
use Rattle.network_file.specs.Struct.{links_struct_of}

pub record Taken (b : Bytes) (links : Links) : Type 0 where
  pub is_accepted : Accepted b
  pub links_is : links ≡ links_struct_of (network_of b)
