-- The columns of a network with nothing in it are zeros alone.
use Rattle.std.proofs.Common.{rules}
use Rattle.lfa.specs.Lists.{flat}
use Rattle.lfa.specs.FileOf.{pad}
use Rattle.network_file.specs.Struct.{struct_of, links_struct_of, link_column, attached_column, slot_column}
use Rattle.network_file.proofs.network.Network.empty.Goals as goal

pub returns : goal.returns
unfolding struct_of links_struct_of link_column attached_column slot_column pad flat
returns c = search rules
