use Rattle.std.proofs.Common.{refl, arith}
use Rattle.table.proofs.NarrowLaws.{rows_little, all_small, cells_small}
use Rattle.table.proofs.AgreeLaws.{under_tested, rows_tested}
use Rattle.table.proofs.agrees.Goals as goal

pub returns-in_default : goal.returns-in_default
returns-in_default c = let l = c.args.links.now in under_tested c.requires.0 l.out l.back c.in_default.ensures

pub copy_rows-requires : goal.copy_rows-requires
copy_rows-requires c = (c.requires.0.few_routers, c.requires.1, all_small c.args.table.now c.requires.1 c.all_bits.ensures (omega arith), refl)

pub rows_right-requires : goal.rows_right-requires
rows_right-requires c =
    let few = c.requires.0.few_routers in
    let most = all_small c.args.table.now c.requires.1 c.all_bits.ensures (omega arith) in
    (few, rows_little few (cells_small c.args.table.now most) c.copy_rows.ensures)

pub returns : goal.returns
returns c =
    let l = c.args.links.now in
    let most = all_small c.args.table.now c.requires.1 c.all_bits.ensures (omega arith) in
    rows_tested c.requires.0 l.out l.back c.requires.2 (cells_small c.args.table.now most) c.copy_rows.ensures c.in-Some.ensures c.rows_right.ensures
