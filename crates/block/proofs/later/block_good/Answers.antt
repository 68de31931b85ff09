-- The test of row 5 for block i: a link block or a prefix block.
-- Assumes nothing.
use Rattle.std.proofs.Common.{◌≤◌, arith}
use Rattle.block.proofs.BlockLaws.{entries_few, links_sound, prefixes_sound}
use Rattle.block.proofs.later.block_good.Goals as goal

pub later_good-requires : goal.later_good-requires
later_good-requires c =
    let few : c.entries_in.result ≤ 84 = entries_few 84 _ _ _ c.entries_in.ensures in
    (c.block_at-block.ensures.1, omega arith)

pub returns-then-i-before : goal.returns-then-i-before
returns-then-i-before c = links_sound _ _ _ _ _ _ _ _ c.block_at-block.ensures.0 c.link_blocks-before.ensures c.if-i-before.true c.entries_in.ensures c.later_good.ensures

pub later_good-requires-2 : goal.later_good-requires-2
later_good-requires-2 c =
    let few : c.entries_in-2.result ≤ 14 = entries_few 14 _ _ _ c.entries_in-2.ensures in
    (c.block_at-block.ensures.1, omega arith)

pub returns : goal.returns
returns c = prefixes_sound _ _ _ _ _ _ _ _ c.block_at-block.ensures.0 c.link_blocks-before.ensures c.if-i-before.false c.entries_in-2.ensures c.later_good-2.ensures
