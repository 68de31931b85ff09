-- The area with the cells in it, and the answers of the public function, return by return.
-- Assumes nothing.
use Prim.Native.Nat.{ℕ, ◌-◌, ◌*◌}
use mathlib.Core.Path.{◌≡◌, ap, ◌∙◌}
use mathlib.Core.Bool.{true, false}
use mathlib.Core.Logic.{◌⊎◌, inl, inr}
use mathlib.Core.List.{List, [], ◌++◌, append-nil}
use native.Mathlib.Omega.{arith}
use lib.ListN.{length, drop}
use lib.Seq.{drop-length}
use borrow.Rule.Slice.PartMut.{put_mid, Post-is}
use Rattle.lfa.specs.Lists.{flat}
use Rattle.lfa.specs.Network.{arcs}
use Rattle.lfa.specs.Distance.{stage, distances, distance_in, filled}
use Rattle.lfa.proofs.Laws.Test.{and_make, fails_left, fails_right}
use Rattle.metric.specs.Fit.{cells_fit, links_fit}
use Rattle.metric.specs.Columns.{arcs_in, network_in}
use Rattle.metric.proofs.Laws.Area.{area_filled_lem}
use Rattle.distance.specs.Calls.{area_filled}
use Rattle.distance.specs.Cells.{Cells}

module _ (n links : ℕ) (from to out back area : List ℕ) where
  -- one of two tests fails
  pub area_left : (cells_fit n (length area) ≡ false) ⊎ (links_fit n links from to ≡ false) → area ≡ area_filled n links from to out back area
  unfolding area_filled
  area_left (inl e) = rw (fails_left _ (links_fit n links from to) e, area_filled)
  area_left (inr e) = rw (fails_right (cells_fit n (length area)) _ e, area_filled)

  -- both pass
  pub area_found : cells_fit n (length area) ≡ true → links_fit n links from to ≡ true → {cells : List ℕ} →
      Cells n (distance_in (stage n (arcs_in from to out back links) n)) cells → put_mid 0 (n * n - 0) area cells ≡ area_filled n links from to out back area
  unfolding area_filled filled distances arcs arcs_in
  area_found a b {cells} holds =
      let net = network_in n links from to out back in
      let none : drop (n * n) cells ≡ [] = rw (← holds.long) (drop-length cells) in
      let e : cells ≡ flat (distances net) = area_filled_lem net cells (omega (arith, holds.long)) holds.cell ∙ rw (filled, none, append-nil) in
      rw (and_make _ _ a b, area_filled, e) (ap (λ (r : List ℕ). flat (distances net) ++ r) (Post-is 0 (n * n) area (omega arith)))
