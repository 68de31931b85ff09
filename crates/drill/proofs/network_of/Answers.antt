-- The columns hold the links of the drill.
-- Assumes nothing.
use Rattle.drill.proofs.DrawLaws.{held_drill}
use Rattle.drill.proofs.network_of.Goals as goal

pub returns : goal.returns
returns c = held_drill _ _ _ c.draw_links.ensures
