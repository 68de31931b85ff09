-- The tests of the links and of the slots, return by return.
-- Assumes nothing.
use Prim.Native.Nat.{ℕ, ◌+◌, ◌≤◌, ◌<◌}
use mathlib.Core.Path.{◌≡◌, sym}
use mathlib.Core.Bool.{true, false, ◌&&◌}
use mathlib.Core.List.{List}
use native.Mathlib.Omega.{arith}
use lib.Dec.{leb, ltb}
use lib.ListN.{get_or}
use borrow.Author.Tests.{le-leb, lt-leb, lt-ltb, le-ltb, ltb-true}
use Rattle.lfa.specs.Lists.{every_below}
use Rattle.lfa.proofs.Laws.Test.{and_left, and_right, and_make, fails_left, fails_right, same_test}
use Rattle.lfa.proofs.Laws.List.{every_gives, every_make}
use Rattle.metric.specs.Fit.{joins, links_fit, attaches, slots_fit}
use Rattle.metric.proofs.Laws.List.{every_fails}

-- ---- the links

-- The largest number of the first k links is below n where their ends are routers, and, where there is a router, only there.
pub record Largest (n k : ℕ) (from to : List ℕ) (top : ℕ) : Type 0 where
  pub holds : top < n → (j : ℕ) → j < k → joins n from to j ≡ true
  pub told : 0 < n → ((j : ℕ) → j < k → joins n from to j ≡ true) → top < n

module _ (n links : ℕ) (from to : List ℕ) where
  pub links_many : 128 < links → false ≡ links_fit n links from to
  unfolding links_fit
  links_many h = sym (fails_left _ _ (lt-leb links 128 h))

  pub links_none : links ≡ 0 → true ≡ links_fit n links from to
  unfolding links_fit
  links_none e = sym (and_make _ _ (le-leb links 128 (omega arith)) (every_make (joins n from to) links (λ k h. absurd (omega arith))))

  -- The first link joins routers where all do, so that there is a router then.
  pub links_told : {top : ℕ} → links ≤ 128 → 0 < links → Largest n links from to top → ltb top n ≡ links_fit n links from to
  unfolding links_fit
  links_told {top} few some q = same_test _ _ (λ e. and_make _ _ (le-leb links 128 few) (every_make (joins n from to) links (q.holds (ltb-true top n e)))) told
    where
      told : (leb links 128 && every_below (joins n from to) links) ≡ true → ltb top n ≡ true
      told e =
          let each = every_gives (joins n from to) links (and_right (leb links 128) _ e) in
          lt-ltb top n (q.told (omega (arith, ltb-true (get_or from 0 0) n (and_left _ _ (each 0 some)))) each)

-- ---- the slots

module _ (n slot count : ℕ) (routers : List ℕ) where
  pub slots_many : 1024 < slot + count → false ≡ slots_fit n slot count routers
  unfolding slots_fit
  slots_many h = sym (fails_left _ _ (lt-leb (slot + count) 1024 h))

  pub slot_fails : (s : ℕ) → s < count → n ≤ get_or routers (slot + s) 0 → false ≡ slots_fit n slot count routers
  unfolding slots_fit
  slot_fails s h e = sym (fails_right (leb (slot + count) 1024) _ (every_fails (attaches n slot routers) count s h (le-ltb _ _ e)))

  pub slots_pass : slot + count ≤ 1024 → ((s : ℕ) → s < count → attaches n slot routers s ≡ true) → true ≡ slots_fit n slot count routers
  unfolding slots_fit
  slots_pass h each = sym (and_make _ _ (le-leb (slot + count) 1024 h) (every_make (attaches n slot routers) count each))
