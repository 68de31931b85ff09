-- `fill_cells` lowers the cells to the costs of arcs, eliminates, substitutes, and shows what the cells stand for.
use Rattle.lfa.proofs.Laws.Distance.{distances_least}
use Rattle.metric.proofs.Laws.Columns.{columns_within}
use Rattle.distance.proofs.DirectLaws.{cheapest_limited, cheapest_none}
use Rattle.distance.proofs.EliminationLaws.{fallen_limited}
use Rattle.distance.proofs.CloseLaws.{cells_closed, cells_finished}
use Rattle.distance.proofs.rows.fill_cells.Goals as goal

pub lower_self_loops-requires : goal.lower_self_loops-requires
lower_self_loops-requires c = (c.requires.0.few_routers, cheapest_none c.args.links.now.routers _ c.requires.1 (c.fill.ensures.after (λ y is. is)))

pub eliminate-requires : goal.eliminate-requires
eliminate-requires c = cheapest_limited _ c.requires.0.few_routers c.lower_links.ensures.1

pub substitute-requires : goal.substitute-requires
substitute-requires c = fallen_limited (cheapest_limited _ c.requires.0.few_routers c.lower_links.ensures.1) c.eliminate.ensures.fallen

pub returns : goal.returns
returns c =
    let l = c.args.links.now in
    let few = c.requires.0.few_routers in
    let within = columns_within l.from l.to l.out l.back l.links l.routers c.requires.0 in
    let direct = c.lower_links.ensures in
    let gone = c.eliminate.ensures in
    let put = c.substitute.ensures in
    let dist = distances_least l.routers _ within in
    cells_finished few within direct.0 dist
    (cells_closed within direct.1 gone put dist (fallen_limited (fallen_limited (cheapest_limited _ few direct.1) gone.fallen) put.fallen)) c.finish.ensures
