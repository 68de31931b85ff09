-- The test of a lent table decides whether it holds the distances.
-- Assumes nothing.
use Rattle.std.specs.Prelude.{ℕ, ◌+◌, ◌*◌, ◌≡◌, ◌⊎◌, ◌↔◌, Bool, true, false, List, eqb, leb, length, get_or}
use Rattle.std.proofs.Common.{sym, ◌∙◌, inl, inr, true≢false}
use borrow.Author.Tests.{leb-true, le-leb, eqb-true, eq-eqb}
use Rattle.lfa.specs.Lists.{every_below}
use Rattle.lfa.specs.Network.{Network}
use Rattle.lfa.specs.Distance.{distances, distance_in, HoldsDistances, cells_hold, holds_distances}
use Rattle.lfa.proofs.Laws.Test.{decide, and_left, and_right, and_make, fails_make}
use Rattle.lfa.proofs.Laws.List.{every_gives, every_make}

module _ (net : Network) (cells : List ℕ) where
  is_distance : ℕ → ℕ → Bool
  is_distance x t = eqb (get_or cells (x * net.routers + t) 0) (distance_in (distances net) x t)

  row_holds : ℕ → Bool
  row_holds x = every_below (is_distance x) net.routers

  pub holds_gives : holds_distances net cells ≡ true → HoldsDistances net cells
  unfolding holds_distances cells_hold row_holds is_distance
  holds_gives e = record {
    enough = leb-true (net.routers * net.routers) (length cells) (and_left _ _ e);
    each = λ x t hx ht.
        let rows = every_gives row_holds net.routers (and_right (leb (net.routers * net.routers) (length cells)) _ e) in
        eqb-true _ _ (every_gives (is_distance x) net.routers (rows x hx) t ht);
  }

  pub holds_make : HoldsDistances net cells → holds_distances net cells ≡ true
  unfolding holds_distances cells_hold row_holds is_distance
  holds_make h =
      and_make _ _ (le-leb (net.routers * net.routers) (length cells) h.enough)
      (every_make row_holds net.routers (λ x hx. every_make (is_distance x) net.routers (λ t ht. eq-eqb _ _ (h.each x t hx ht))))

  -- the test fails exactly where the table does not hold them
  pub holds_not : (holds_distances net cells ≡ false) ↔ (HoldsDistances net cells → ⊥)
  holds_not = (λ e h. true≢false (sym (holds_make h) ∙ e), λ no. fails_make (holds_distances net cells) (λ e. no (holds_gives e)))

  -- a table holds them unless it does not
  pub holds_stable : ((HoldsDistances net cells → ⊥) → ⊥) → HoldsDistances net cells
  holds_stable h = go (decide (holds_distances net cells))
    where
      go : (holds_distances net cells ≡ true) ⊎ (holds_distances net cells ≡ false) → HoldsDistances net cells
      go (inl t) = holds_gives t
      go (inr t) = absurd (h (holds_not.0 t))
