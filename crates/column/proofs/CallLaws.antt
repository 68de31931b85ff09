-- The answers of the public functions, return by return.
-- Assumes nothing.
use Prim.Native.Nat.{ℕ, ◌*◌, ◌≤◌, ◌<◌}
use mathlib.Core.Path.{◌≡◌, refl, sym, ◌∙◌}
use mathlib.Core.Bool.{false}
use mathlib.Core.Logic.{◌⊎◌, inl, inr}
use mathlib.Core.List.{List}
use lib.Dec.{ltb}
use lib.ListN.{length, replicate}
use Rattle.lfa.specs.Network.{router}
use Rattle.lfa.specs.Distance.{towards}
use Rattle.lfa.proofs.Laws.Test.{fails_left, fails_right}
use Rattle.metric.specs.Fit.{cells_fit, slots_fit, SlotsWithin}
use Rattle.metric.specs.Area.{held}
use Rattle.metric.specs.Column.{column, slots_in}
use Rattle.column.specs.Calls.{router_column, prefix_column}
use Rattle.column.specs.Laws.Calls.{router_known, prefix_known}

-- ---- the answers where one of two tests fails

pub router_none : (n t : ℕ) (area : List ℕ) → (cells_fit n (length area) ≡ false) ⊎ (ltb t n ≡ false) → replicate 64 0 ≡ router_column n t area
unfolding router_column
router_none n t area (inl e) = rw (fails_left _ (ltb t n) e, router_column)
router_none n t area (inr e) = rw (fails_right (cells_fit n (length area)) _ e, router_column)

pub prefix_none : (n : ℕ) (routers costs : List ℕ) (slot count : ℕ) (area : List ℕ) → (cells_fit n (length area) ≡ false) ⊎ (slots_fit n slot count routers ≡ false) →
    replicate 64 0 ≡ prefix_column n routers costs slot count area
unfolding prefix_column
prefix_none n routers costs slot count area (inl e) = rw (fails_left _ (slots_fit n slot count routers) e, prefix_column)
prefix_none n routers costs slot count area (inr e) = rw (fails_right (cells_fit n (length area)) _ e, prefix_column)

-- ---- the answers where both tests pass

module _ (n : ℕ) (area : List ℕ) (few : n ≤ 64) (long : n * n ≤ length area) where
  pub router_found : {column-read : List ℕ} (t : ℕ) → t < n → column-read ≡ column n (towards (held n area) (router t)) → column-read ≡ router_column n t area
  router_found t h e = e ∙ sym (router_known n area few long t h refl)

  pub prefix_found_lem : {column-read : List ℕ} (routers costs : List ℕ) (slot count : ℕ) → SlotsWithin n slot count routers →
      column-read ≡ column n (towards (held n area) (slots_in routers costs slot count)) → column-read ≡ prefix_column n routers costs slot count area
  prefix_found_lem routers costs slot count w e = e ∙ sym (prefix_known n area few long routers costs slot count w refl)
