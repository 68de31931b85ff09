use Rattle.std.proofs.Common.{arith}
use Rattle.lfa.specs.File.{link_blocks, ceil}
use Rattle.network_file.specs.Entry.{place_in}
use Rattle.network_file.proofs.prefix.first_place.Goals as goal

pub returns : goal.returns
unfolding place_in link_blocks ceil
returns c = omega arith
