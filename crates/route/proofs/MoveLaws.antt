-- The move at a router, by what the leg has read of the columns: it is the option that the next choice byte takes.
-- Assumes nothing.
use Rattle.std.proofs.Common.{◌≡◌, ℕ, ◌<◌, List, length, get_or, sym, ap, ◌∙◌}
use Rattle.lfa.specs.Space.{has}
use Rattle.lfa.specs.Route.{go, options, choice_at, option_taken, Takes}
use Rattle.lfa.specs.Sound.{level}
use Rattle.lfa.proofs.Laws.Walk.{measure}
use Rattle.metric.specs.Columns.{arcs_in}
use Rattle.metric.specs.Area.{held}
use Rattle.metric.specs.Column.{slots_in}
use Rattle.metric.proofs.Laws.Columns.{columns_within}
use Rattle.column.specs.Calls.{prefix_column, attached_set}
use Rattle.column.specs.Laws.Calls.{prefix_known, attached_known}
use Rattle.steps.specs.Steps.{nexts_by}
use Rattle.steps.specs.Laws.Next.{RightEnds}
use Rattle.steps.specs.Laws.Calls.{nexts_known}
use Rattle.options.specs.declared.Move.{Move}
use Rattle.options.specs.declared.Move.TheVariants.{Go}
use Rattle.options.specs.Options.{move_in, move_by}
use Rattle.options.proofs.Laws.Options.{move_known}
use Rattle.route.specs.Leg.{Playable}
use Rattle.route.proofs.LegLaws.{step_nearer}

module _ {n links slot count : ℕ} (dist : List ℕ) {from to out back routers : List ℕ} (net : Playable n (length dist) links from to out back routers slot count) (own choices : List ℕ) (i : ℕ) (m : Move)
    {target nexts : List ℕ} {ends : ℕ} (target_is : target ≡ prefix_column n routers own slot count dist) (ends_is : ends ≡ attached_set routers slot count) (nexts_is : nexts ≡ nexts_by links from to out back ends target)
    {x byte : ℕ} (x-in : x < n) (byte_is : byte ≡ choice_at choices i) (move_is : move_in m ≡ move_by (get_or nexts x 0) ends target x byte) where
  pub moved : option_taken (options n (arcs_in from to out back links) (held n dist) (slots_in routers own slot count) x) (choice_at choices i) ≡ move_in m
  moved =
      let few = net.within.few_routers in
      let d = held n dist in
      let slots = slots_in routers own slot count in
      let column_is = prefix_known n dist few net.long routers own slot count net.slots target_is in
      let ended : RightEnds n slots ends = record { at = λ y h. ap (λ (set : ℕ). has set y) ends_is ∙ attached_known own few net.slots h } in
      let right = nexts_known net.within out back d slots _ _ _ ended column_is nexts_is in
      let hops = arcs_in from to out back links in
      ap (option_taken _) (sym byte_is) ∙ sym (move_is ∙ move_known few hops (columns_within _ _ _ _ _ n net.within) d slots _ column_is _ right _ ended _ _ x-in)

  -- and where it goes on, to a router that is nearer to the target
  pub went : {z : ℕ} → m ≡ Go z → let d = held n dist in
      let slots = slots_in routers own slot count in
      Takes (options n (arcs_in from to out back links) d slots) choices i x (go z) × (z < n) × (measure level d slots z < measure level d slots x)
  unfolding move_in
  went e =
      let t = moved ∙ ap move_in e in
      let step = step_nearer n _ (held n dist) _ (columns_within _ _ _ _ _ n net.within) net.descends x _ t in
      (t, step.0, step.1)
