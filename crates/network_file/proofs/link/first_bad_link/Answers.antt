use Rattle.std.proofs.Common.{sym, ◌∙◌, arith}
use Rattle.block.specs.Laws.First.{passed_more, first_found, none_found}
use Rattle.network_file.proofs.link.first_bad_link.Goals as goal

pub returns-then-not-sound_link : goal.returns-then-not-sound_link
returns-then-not-sound_link c =
    first_found _ 0 _ c.loop-k.k c.loop-k.invariant (omega arith) (omega arith) (sym c.sound_link.ensures ∙ c.if-not-sound_link.true)

pub loop-k-preserved : goal.loop-k-preserved
loop-k-preserved c =
    passed_more _ 0 c.args.links.now.links c.loop-k.k c.loop-k.invariant (sym c.sound_link.ensures ∙ c.if-not-sound_link.false)

pub returns : goal.returns
returns c = none_found _ 0 _ c.loop-k.k c.loop-k.invariant (omega arith)
