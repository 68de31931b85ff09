-- Each step is the option that the next choice byte takes, and writes the router that it leads to.
use Rattle.std.proofs.Common.{sym, ap, ◌∙◌, arith, add-one}
use Rattle.options.specs.Options.{move_in}
use Rattle.route.proofs.LegLaws.{leg_stops, leg_delivers, not_going}
use Rattle.route.proofs.MoveLaws.{moved, went}
use Rattle.route.proofs.ProgressLaws.{playing_starts, playing_uses, playing_on, playing_ends}
use Rattle.route.proofs.play.leg.Goals as goal

pub loop-x-init : goal.loop-x-init
loop-x-init c = let p = c.requires in playing_starts p.2.2 p.2.3 p.2.4 p.2.5 p.1

pub overflow_add-next : goal.overflow_add-next
overflow_add-next c = record { fits = omega (arith, playing_uses c.loop-x.invariant c.if-x-stop.false, c.requires.0.within.few_routers) }

pub overflow_cast-buffer : goal.overflow_cast-buffer
overflow_cast-buffer c =
    let on = (went c.args.ground.now.area.cells.now c.requires.0 c.args.slots.now.own.now c.args.ground.now.choices.now c.loop-x.next c.move_at-taken.result c.towards_prefix-target.ensures c.attached_routers-ends.ensures c.next_routers-nexts.ensures c.loop-x.invariant.inside c.choice-byte.ensures c.move_at-taken.ensures c.in-Go.is) in
    record { fits = omega (arith, on.1, c.requires.0.within.few_routers) }

pub bounds-buffer-k : goal.bounds-buffer-k
bounds-buffer-k c =
    let on = (went c.args.ground.now.area.cells.now c.requires.0 c.args.slots.now.own.now c.args.ground.now.choices.now c.loop-x.next c.move_at-taken.result c.towards_prefix-target.ensures c.attached_routers-ends.ensures c.next_routers-nexts.ensures c.loop-x.invariant.inside c.choice-byte.ensures c.move_at-taken.ensures c.in-Go.is) in
    omega (arith, c.loop-x.invariant.wrote.same, (playing_on c.loop-x.invariant c.if-x-stop.false on.0 on.1).0)

pub overflow_add-k : goal.overflow_add-k
overflow_add-k c =
    let on = (went c.args.ground.now.area.cells.now c.requires.0 c.args.slots.now.own.now c.args.ground.now.choices.now c.loop-x.next c.move_at-taken.result c.towards_prefix-target.ensures c.attached_routers-ends.ensures c.next_routers-nexts.ensures c.loop-x.invariant.inside c.choice-byte.ensures c.move_at-taken.ensures c.in-Go.is) in
    record { fits = omega (arith, (playing_on c.loop-x.invariant c.if-x-stop.false on.0 on.1).1, c.requires.0.within.few_routers) }

pub loop-x-smaller : goal.loop-x-smaller
loop-x-smaller c = (went c.args.ground.now.area.cells.now c.requires.0 c.args.slots.now.own.now c.args.ground.now.choices.now c.loop-x.next c.move_at-taken.result c.towards_prefix-target.ensures c.attached_routers-ends.ensures c.next_routers-nexts.ensures c.loop-x.invariant.inside c.choice-byte.ensures c.move_at-taken.ensures c.in-Go.is).2

pub loop-x-preserved : goal.loop-x-preserved
loop-x-preserved c =
    let on = (went c.args.ground.now.area.cells.now c.requires.0 c.args.slots.now.own.now c.args.ground.now.choices.now c.loop-x.next c.move_at-taken.result c.towards_prefix-target.ensures c.attached_routers-ends.ensures c.next_routers-nexts.ensures c.loop-x.invariant.inside c.choice-byte.ensures c.move_at-taken.ensures c.in-Go.is) in
    (playing_on c.loop-x.invariant c.if-x-stop.false on.0 on.1).2

pub returns-then-x-stop : goal.returns-then-x-stop
returns-then-x-stop c = λ rs next l. playing_ends c.loop-x.invariant (leg_stops c.if-x-stop.true c.loop-x.invariant.ahead) l (omega (arith, c.requires.2.4))

pub returns-in_default : goal.returns-in_default
unfolding move_in
returns-in_default c = λ rs next leg.
    let over = leg_delivers c.if-x-stop.false (moved c.args.ground.now.area.cells.now c.requires.0 c.args.slots.now.own.now c.args.ground.now.choices.now c.loop-x.next c.move_at-taken.result c.towards_prefix-target.ensures c.attached_routers-ends.ensures c.next_routers-nexts.ensures c.loop-x.invariant.inside c.choice-byte.ensures c.move_at-taken.ensures ∙ ap move_in (not_going _ c.in_default.not-Go)) c.loop-x.invariant.ahead in
    playing_ends c.loop-x.invariant (over.0, over.1 ∙ sym (add-one _)) leg (omega (arith, c.requires.2.4))
