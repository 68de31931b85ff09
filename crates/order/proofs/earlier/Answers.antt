-- One pair more takes the place of what was found where that is later.
use Rattle.std.proofs.Common.{◌≡◌, true, false, sym, ◌∙◌}
use Rattle.lfa.specs.Repair.{no_later}
use Rattle.order.specs.Order.{keys_in, earlier_of}
use Rattle.order.proofs.earlier.Goals as goal

pub returns-in_default : goal.returns-in_default
unfolding earlier_of
returns-in_default c = rw (c.in_default.is, earlier_of)

pub returns-then-no_later : goal.returns-then-no_later
unfolding earlier_of
returns-then-no_later c =
    let n : no_later (keys_in c.in-Some.before) (keys_in c.args.next) ≡ true = sym c.no_later.ensures ∙ c.if-no_later.true in
    rw (c.in-Some.is, earlier_of, n)

pub returns-else-no_later : goal.returns-else-no_later
unfolding earlier_of
returns-else-no_later c =
    let n : no_later (keys_in c.in-Some.before) (keys_in c.args.next) ≡ false = sym c.no_later.ensures ∙ c.if-no_later.false in
    rw (c.in-Some.is, earlier_of, n)
