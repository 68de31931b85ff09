use Rattle.std.proofs.Common.{◌≡◌, ◌+◌, ◌-◌, take, drop, ◌∙◌, arith}
use Rattle.table.proofs.RowLaws.{window}
use Rattle.table.proofs.row.first_sums.Goals as goal

pub returns : goal.returns
returns c =
    let x = c.args.x in
    let read : c.copy_from_slice.new.self ≡ take (64 - x + 64 - (64 - x)) (drop (64 - x) c.args.starts.now) = c.copy_from_slice.ensures.after in
    let n : 64 - x + 64 - (64 - x) ≡ 64 = omega arith in
    (rw (n, c.requires.1) at read) ∙ window c.requires.0
