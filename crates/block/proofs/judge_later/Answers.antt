-- Rows 4 and 5 in order: each return is one law of `JudgedLaws`.
-- Assumes nothing.
use Rattle.std.proofs.Common.{◌∙◌}
use Rattle.lfa.specs.File.{links_of, prefixes_of}
use Rattle.block.specs.Judged.{blocks_decided, fault_decided}
use Rattle.block.proofs.JudgedLaws.{count_decides, block_decides, later_passed}
use Rattle.block.proofs.judge_later.Goals as goal

pub returns-then-n-needed : goal.returns-then-n-needed
unfolding blocks_decided fault_decided links_of prefixes_of
returns-then-n-needed c =
    count_decides _ c.args.n _ _ _ c.requires.0 (c.from-links.ensures ∙ c.word_at.ensures) (c.from-prefixes.ensures ∙ c.word_at-2.ensures)
    c.blocks_needed-needed.ensures c.if-n-needed.true

pub first_bad_block-requires : goal.first_bad_block-requires
unfolding links_of prefixes_of
first_bad_block-requires c =
    (c.requires.1, c.requires.2, c.requires.3, c.from-links.ensures ∙ c.word_at.ensures, c.from-prefixes.ensures ∙ c.word_at-2.ensures)

pub returns-in-Some : goal.returns-in-Some
unfolding blocks_decided fault_decided links_of prefixes_of
returns-in-Some c =
    block_decides _ c.args.n _ _ _ c.requires.0 (c.from-links.ensures ∙ c.word_at.ensures) (c.from-prefixes.ensures ∙ c.word_at-2.ensures)
    c.blocks_needed-needed.ensures c.if-n-needed.false _ c.in-Some.ensures

pub returns-in-None : goal.returns-in-None
unfolding blocks_decided links_of prefixes_of
returns-in-None c =
    later_passed _ c.args.n _ _ _ c.requires.0 (c.from-links.ensures ∙ c.word_at.ensures) (c.from-prefixes.ensures ∙ c.word_at-2.ensures)
    c.blocks_needed-needed.ensures c.if-n-needed.false c.in-None.ensures
