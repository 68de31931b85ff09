-- The head, the link blocks and the prefix blocks.
-- Assumes nothing.
use Rattle.std.proofs.Common.{arith}
use Rattle.writer.proofs.ComposeLaws.{few_blocks, after_head, few_ahead, after_links, composed}
use Rattle.writer.proofs.file.compose.Goals as goal

pub put_link_blocks-ahead-requires : goal.put_link_blocks-ahead-requires
put_link_blocks-ahead-requires c = (c.requires.0.few_links, after_head c.args.network.now c.requires.0 _ c.put_head.ensures)

pub overflow_add-ahead : goal.overflow_add-ahead
overflow_add-ahead c =
    let linked = c.put_link_blocks-ahead.ensures in
    omega (arith, few_ahead c.args.network.now c.requires.0 _ c.put_head.ensures _ _ linked.0 linked.1)

pub put_prefix_blocks-more-requires : goal.put_prefix_blocks-more-requires
put_prefix_blocks-more-requires c =
    let linked = c.put_link_blocks-ahead.ensures in
    let few = few_ahead c.args.network.now c.requires.0 _ c.put_head.ensures _ _ linked.0 linked.1 in
    let front = after_links c.args.network.now c.requires.0 _ c.put_head.ensures _ _ linked.0 linked.1 in
    (c.requires.0.few_prefixes, few, front, c.requires.0.few_attached)

pub overflow_add-result : goal.overflow_add-result
overflow_add-result c =
    let linked = c.put_link_blocks-ahead.ensures in
    let few = few_ahead c.args.network.now c.requires.0 _ c.put_head.ensures _ _ linked.0 linked.1 in
    omega (arith, few, few_blocks _ c.requires.0 _ c.put_prefix_blocks-more.ensures.0)

pub overflow_mul-result : goal.overflow_mul-result
overflow_mul-result c =
    let linked = c.put_link_blocks-ahead.ensures in
    let few = few_ahead c.args.network.now c.requires.0 _ c.put_head.ensures _ _ linked.0 linked.1 in
    omega (arith, few, few_blocks _ c.requires.0 _ c.put_prefix_blocks-more.ensures.0)

pub returns : goal.returns
returns c =
    let linked = c.put_link_blocks-ahead.ensures in
    let filled = c.put_prefix_blocks-more.ensures in
    composed c.args.network.now c.requires.0 _ c.put_head.ensures _ _ linked.0 linked.1 _ _ filled.0 filled.1
