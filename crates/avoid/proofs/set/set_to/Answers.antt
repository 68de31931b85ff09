use Rattle.std.proofs.Common.{◌≡◌, refl, get_or, ℕ, rules}
use Rattle.metric.specs.Area.{held, cell_in}
use Rattle.avoid.specs.Avoiding.{asked, below_both, clears}
use Rattle.avoid.proofs.SetLaws.{known, cells_clear}
use Rattle.avoid.proofs.set.set_to.Goals as goal

-- the test of the cells that were read is the test by distances
pub returns : goal.returns
returns c =
    let left : ℕ → ℕ = λ z. get_or c.args.left.now z 0 in
    let target : ℕ → ℕ = λ z. get_or c.args.target.now z 0 in
    let q = asked c.args.protected in
    let n = c.args.sums.now.n in
    let area = c.args.sums.now.cells.now in
    let r = c.requires in
    c.set_where.ensures (clears left (held n area) q target) (λ x b h e.
    let read : b ≡ below_both (left x) (cell_in n area x q.near) (cell_in n area x q.far) q.out q.back (target q.near) (target q.far) = search rules in
    cells_clear left _ q target x refl (known r x q.near h r.near_in refl) (known r x q.far h r.far_in refl) refl refl read)
