use Rattle.std.proofs.Common.{◌≡◌, refl, arith}
use Rattle.table.proofs.BitLaws.{taken}
use Rattle.table.proofs.RowLaws.{sums_first, sums_next, sums_told}
use Rattle.table.proofs.row.row_right.Goals as goal

pub loop-rest-init : goal.loop-rest-init
loop-rest-init c = (omega arith, rw c.first_sums-sums.ensures (sums_first c.args.cells.now c.requires.0))

pub loop-rest-preserved : goal.loop-rest-preserved
loop-rest-preserved c =
    let head = taken c.loop-rest.rest (λ e. omega arith) c.loop-rest.invariant.0 in
    (omega (arith, head.fewer), sums_next c.args.cells.now c.requires.0 c.loop-rest.invariant.1 head refl c.lower.ensures)

pub returns : goal.returns
returns c =
    let e : c.loop-rest.rest ≡ 0 = omega arith in
    sums_told c.args.cells.now c.requires.0 c.requires.1 (rw e at c.loop-rest.invariant.1) c.same_row.ensures
