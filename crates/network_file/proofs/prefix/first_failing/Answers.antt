use Rattle.std.proofs.Common.{◌∙◌, arith}
use Rattle.block.specs.Laws.First.{passed_more, first_found, none_found}
use Rattle.network_file.proofs.PlaceLaws.{place_next, place_small}
use Rattle.network_file.proofs.prefix.first_failing.Goals as goal

pub returns-then-not-good : goal.returns-then-not-good
returns-then-not-good g c = λ test h.
    let l = c.loop-p in
    first_found test 0 _ l.p (l.invariant.passed test h) (omega arith) (omega arith)
    (h l.p _ c.loop-p-test.true (rw (← l.invariant.at_place) c.good.ensures) ∙ c.if-not-good.true)

pub next_place-place-requires : goal.next_place-place-requires
next_place-place-requires g c = (place_small _ c.loop-p.p _ c.loop-p.invariant.at_place (omega arith) (omega arith), omega arith, omega arith)

pub loop-p-preserved : goal.loop-p-preserved
loop-p-preserved g c =
    let l = c.loop-p in
    record {
      at_place = place_next _ l.p _ l.invariant.at_place c.next_place-place.ensures;
      passed = λ test h.
          passed_more test 0 c.args.links.now.prefixes l.p (l.invariant.passed test h)
          (h l.p _ c.loop-p-test.true (rw (← l.invariant.at_place) c.good.ensures) ∙ c.if-not-good.false);
    }

pub returns : goal.returns
returns g c = λ test h. none_found test 0 _ c.loop-p.p (c.loop-p.invariant.passed test h) (omega arith)
