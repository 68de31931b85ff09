use Rattle.std.proofs.Common.{arith}
use Rattle.network_file.specs.Entry.{pair_cell}
use Rattle.network_file.proofs.link.pair_cell.Goals as goal

pub returns : goal.returns
unfolding pair_cell
returns c = (omega arith, omega arith)
