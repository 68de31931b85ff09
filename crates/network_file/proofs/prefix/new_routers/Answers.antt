use Rattle.std.proofs.Common.{◌≡◌, sym, rules, arith}
use Rattle.lfa.specs.File.{attachments, byte_at}
use Rattle.network_file.proofs.EveryLaws.{every_none, every_more, every_fails}
use Rattle.network_file.proofs.PrefixLaws.{named_by, named_more, is_new, not_new}
use Rattle.network_file.proofs.prefix.new_routers.Goals as goal

pub loop-s-init : goal.loop-s-init
unfolding named_by
loop-s-init c = (every_none _, search rules)

pub returns-then-named-router : goal.returns-then-named-router
unfolding attachments byte_at
returns-then-named-router c =
    let l = c.loop-s in
    every_fails _ _ l.s (omega arith) (not_new _ l.s _ c.requires (omega arith) l.invariant.1 c.from-router.ensures c.if-named-router.true)

pub loop-s-preserved : goal.loop-s-preserved
loop-s-preserved c =
    let l = c.loop-s in (
      every_more _ l.s l.invariant.0 (is_new _ l.s _ c.requires (omega arith) l.invariant.1 c.from-router.ensures c.if-named-router.false),
      rw (l.invariant.1, c.from-router.ensures) (named_more _ l.s),
    )

pub returns : goal.returns
unfolding attachments byte_at
returns c =
    let e : c.loop-s.s ≡ c.from-count.result = omega arith in
    sym (rw (e, c.from-count.ensures) at c.loop-s.invariant.0)
