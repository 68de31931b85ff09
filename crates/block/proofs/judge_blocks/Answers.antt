-- Rows 1 to 5 in order: each return is one law of `JudgedLaws`.
-- Assumes nothing.
use Rattle.std.proofs.Common.{refl, sym, ◌∙◌, arith}
use Rattle.lfa.specs.File.{blocks_in}
use Rattle.block.specs.Judged.{blocks_decided, fault_decided}
use Rattle.block.specs.Laws.Sized.{good_length}
use Rattle.block.proofs.JudgedLaws.{length_decides, check_decides, head_decides, head_passed}
use Rattle.block.proofs.judge_blocks.Goals as goal

pub returns-then-not-length_good : goal.returns-then-not-length_good
unfolding blocks_decided fault_decided
returns-then-not-length_good c = length_decides _ (sym c.length_good.ensures ∙ c.if-not-length_good.true)

pub returns-in-Some : goal.returns-in-Some
unfolding blocks_decided fault_decided
returns-in-Some c = check_decides _ (sym c.length_good.ensures ∙ c.if-not-length_good.false) _ c.in-Some.ensures

pub head_good-requires : goal.head_good-requires
unfolding blocks_in
head_good-requires c =
    let l = good_length _ (sym c.length_good.ensures ∙ c.if-not-length_good.false) in
    omega arith

pub returns-then-not-head_good : goal.returns-then-not-head_good
unfolding blocks_decided fault_decided
returns-then-not-head_good c =
    head_decides _ (sym c.length_good.ensures ∙ c.if-not-length_good.false) c.in_default.ensures (sym c.head_good.ensures ∙ c.if-not-head_good.true)

pub judge_later-requires : goal.judge_later-requires
unfolding blocks_in
judge_later-requires c =
    let l = good_length _ (sym c.length_good.ensures ∙ c.if-not-length_good.false) in
    (refl, omega arith, omega arith, omega arith)

pub returns : goal.returns
returns c =
    c.judge_later.ensures
    ∙ head_passed _ (sym c.length_good.ensures ∙ c.if-not-length_good.false) c.in_default.ensures (sym c.head_good.ensures ∙ c.if-not-head_good.false)
