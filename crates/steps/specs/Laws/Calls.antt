-- The next routers for any numbers, return by return, and what they are where the columns hold a network.
-- Assumes nothing.
use Rattle.std.specs.Prelude.{ℕ, ◌≡◌, true, false, List, get_or, replicate}
use Rattle.std.proofs.Common.{◌∙◌, arith}
use Rattle.lfa.specs.Network.{Target}
use Rattle.lfa.specs.Distance.{towards}
use Rattle.metric.specs.Fit.{links_fit, ColumnsWithin}
use Rattle.metric.specs.Columns.{arcs_in}
use Rattle.metric.specs.Column.{column}
use Rattle.metric.proofs.Laws.Columns.{columns_within}
use Rattle.metric.proofs.Laws.Fit.{links_fit_lem}
use Rattle.steps.specs.Steps.{nexts_in, nexts_by}
use Rattle.steps.specs.Laws.Next.{RightNexts, RightEnds, right_nexts}

module _ (links : ℕ) (from to out back : List ℕ) (ends : ℕ) (target : List ℕ) where
  pub unfit : links_fit 64 links from to ≡ false → replicate 64 0 ≡ nexts_by links from to out back ends target
  unfolding nexts_by
  unfit e = rw (e, nexts_by)

  pub fitting : links_fit 64 links from to ≡ true → nexts_by links from to out back ends target ≡ nexts_in ends (λ y. get_or target y 0) (arcs_in from to out back links)
  unfolding nexts_by
  fitting e = rw (e, nexts_by)

-- Where the columns hold a network and `target` the distances to a target, the sets are those of the next routers.
pub nexts_known : {n links : ℕ} {from to : List ℕ} → ColumnsWithin n links from to → (out back : List ℕ) (d : ℕ → ℕ → ℕ) (at : Target) (target nexts : List ℕ) →
    (ends : ℕ) → RightEnds n at ends → target ≡ column n (towards d at) → nexts ≡ nexts_by links from to out back ends target → RightNexts n (arcs_in from to out back links) d at nexts
nexts_known {n} {links} {from} {to} w out back d at target nexts ends right held e =
    let wide : ColumnsWithin 64 links from to = record { few_routers = omega arith; few_links = w.few_links; from_in = λ k h. omega (arith, w.from_in k h, w.few_routers); to_in = λ k h. omega (arith, w.to_in k h, w.few_routers) } in
    let is = e ∙ fitting links from to out back ends target (links_fit_lem wide) in
    rw is (right_nexts n w.few_routers (arcs_in from to out back links) (columns_within from to out back links n w) d at ends right target held)
