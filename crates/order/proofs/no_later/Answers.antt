-- The first number in which the two differ decides.
use Rattle.std.proofs.Common.{◌∙◌}
use Rattle.order.proofs.OrderLaws.{tuples_later}
use Rattle.order.proofs.no_later.Goals as goal

pub returns : goal.returns
returns c =
    let a = c.args.a in
    let b = c.args.b in
    c.le.ensures ∙ tuples_later a.rank a.distance a.pair.endpoint a.pair.cost a.pair.first b.rank b.distance b.pair.endpoint b.pair.cost b.pair.first
