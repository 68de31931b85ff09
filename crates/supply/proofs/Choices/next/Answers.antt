use Rattle.std.proofs.Common.{sym, refl, lt-ltb, le-ltb}
use lib.ListN.{get_or-eq_default}
use Rattle.lfa.specs.Route.{choice_at}
use Rattle.supply.specs.Supply.{place_after}
use Rattle.supply.proofs.Choices.next.Goals as goal

pub returns-then-place-self : goal.returns-then-place-self
unfolding choice_at place_after
returns-then-place-self c = (refl, rw (lt-ltb _ _ c.if-place-self.true, place_after))

-- past the end the list has the default, 0
pub returns-else-place-self : goal.returns-else-place-self
unfolding choice_at place_after
returns-else-place-self c = (sym (get_or-eq_default c.args.self.now.bytes.now 0 c.if-place-self.false), rw (le-ltb _ _ c.if-place-self.false, place_after))
