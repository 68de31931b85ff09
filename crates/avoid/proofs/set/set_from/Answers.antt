use Rattle.std.proofs.Common.{◌≡◌, refl, ap, ℕ, rules}
use Rattle.metric.specs.Area.{held, cell_in}
use Rattle.avoid.specs.Avoiding.{asked, below_both, clears_to}
use Rattle.avoid.proofs.SetLaws.{known, cells_clear_to}
use Rattle.avoid.proofs.set.set_from.Goals as goal

-- the test of the cells that were read is the test by distances
pub returns : goal.returns
returns c =
    let n = c.args.sums.now.n in
    let cells = c.args.left.now.cells.now in
    let area = c.args.sums.now.cells.now in
    let q = asked c.args.protected in
    let x = c.args.x in
    let x-in = c.requires.x_in in
    let l = c.requires.left_read in
    let s = c.requires.sums_read in
    let to-near = known s x q.near x-in s.near_in c.distance-x_near.ensures in
    let to-far = known s x q.far x-in s.far_in c.distance-x_far.ensures in
    c.set_where.ensures (clears_to (held n cells) (held n area) q x) (λ r b h e.
    let read : b ≡ below_both (cell_in c.args.left.now.n cells x r) c.distance-x_near.result c.distance-x_far.result q.out q.back (cell_in n area q.near r) (cell_in n area q.far r) = search rules in
    let own = known l x r x-in h (ap (λ (k : ℕ). cell_in k cells x r) c.requires.same_n) in
    cells_clear_to (held n cells) (held n area) q x r own to-near to-far (known s q.near r s.near_in h refl) (known s q.far r s.far_in h refl) read)
