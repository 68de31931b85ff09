-- `prefix_entry` is the entry of a prefix of an accepted file, and empty for anything else.
use Rattle.std.proofs.Common.{◌∙◌, sym, arith}
use Rattle.network_file.proofs.PlaceLaws.{place_inside, place_there}
use Rattle.entries.proofs.PartLaws.{links_few, blocks_are, prefix_sized, prefix_there, is_prefix_part, no_prefix}
use Rattle.entries.proofs.prefix_entry.Goals as goal

pub returns-then-prefixes-prefix : goal.returns-then-prefixes-prefix
returns-then-prefixes-prefix c = sym (no_prefix _ _ (omega (arith, c.count_at-prefixes.ensures)))

pub overflow_mul-blocks : goal.overflow_mul-blocks
overflow_mul-blocks c =
    let k = prefix_sized c.args.file.now c.args.prefix (omega (arith, c.count_at-prefixes.ensures)) in
    omega (arith, k.1, k.0.few_links, k.0.few_prefixes, links_few _ _ (c.from.ensures ∙ c.word_at.ensures) k.0)

pub overflow_add-blocks-3 : goal.overflow_add-blocks-3
overflow_add-blocks-3 c =
    let k = prefix_sized c.args.file.now c.args.prefix (omega (arith, c.count_at-prefixes.ensures)) in
    omega (arith, k.1, k.0.few_links, k.0.few_prefixes, links_few _ _ (c.from.ensures ∙ c.word_at.ensures) k.0)

pub overflow_add-blocks-4 : goal.overflow_add-blocks-4
overflow_add-blocks-4 c =
    let k = prefix_sized c.args.file.now c.args.prefix (omega (arith, c.count_at-prefixes.ensures)) in
    omega (arith, k.1, k.0.few_links, k.0.few_prefixes, links_few _ _ (c.from.ensures ∙ c.word_at.ensures) k.0)

pub part_at-requires : goal.part_at-requires
part_at-requires c = place_inside _ _ _ (prefix_there c.args.file.now c.args.prefix (omega (arith, c.count_at-prefixes.ensures)) (c.from.ensures ∙ c.word_at.ensures) (blocks_are _ c.div_ceil-blocks.ensures))

pub returns : goal.returns
returns c =
    place_there _ _ _ (prefix_there c.args.file.now c.args.prefix (omega (arith, c.count_at-prefixes.ensures)) (c.from.ensures ∙ c.word_at.ensures) (blocks_are _ c.div_ceil-blocks.ensures)).at_place c.part_at.ensures
    ∙ is_prefix_part _ _ (omega (arith, c.count_at-prefixes.ensures))
