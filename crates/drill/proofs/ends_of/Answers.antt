-- A link to the next router, and the one that closes the ring.
-- Assumes nothing.
use Rattle.std.proofs.Common.{refl, sym, arith}
use Rattle.lfa.proofs.Laws.Ring.{next_on_ring_lem, last_on_ring}
use Rattle.drill.proofs.ends_of.Goals as goal

pub returns-then-i-n : goal.returns-then-i-n
returns-then-i-n c = (refl, sym (next_on_ring_lem c.args.n c.args.i (omega arith)))

pub returns : goal.returns
returns c = (refl, sym (last_on_ring c.args.n c.args.i (omega arith)))
