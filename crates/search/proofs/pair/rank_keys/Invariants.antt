-- The keys of the classes passed are stored.
use Rattle.std.proofs.Common.{◌≡◌, length}
use Rattle.search.specs.Choice.{KeysBelow}
use Rattle.search.proofs.pair.rank_keys.Given as goal

abbrev pub invariant-loop-class : goal.invariant-loop-class
invariant-loop-class l = record { long : length l.keys ≡ 8; stored : KeysBelow l.class l.ranks l.keys }
