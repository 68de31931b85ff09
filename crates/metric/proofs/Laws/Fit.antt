-- The tests pass where the numbers are those of a network, and only there.
-- Assumes nothing.
use Rattle.std.specs.Prelude.{ℕ, ◌+◌, ◌*◌, ◌≤◌, ◌≡◌, true, List, leb, ltb, get_or}
use Rattle.std.proofs.Common.{ltb-true, leb-true, lt-ltb, le-leb}
use Rattle.lfa.proofs.Laws.Test.{and_left, and_right, and_make}
use Rattle.lfa.proofs.Laws.List.{every_gives, every_make}
use Rattle.metric.specs.Fit.{cells_fit, joins, links_fit, attaches, slots_fit, ColumnsWithin, SlotsWithin}

-- ---- the tests pass

pub cells_fit_lem : (n cells : ℕ) → n ≤ 64 → n * n ≤ cells → cells_fit n cells ≡ true
unfolding cells_fit
cells_fit_lem n cells few long = and_make _ _ (le-leb n 64 few) (le-leb (n * n) cells long)

pub links_fit_lem : {n links : ℕ} {from to : List ℕ} → ColumnsWithin n links from to → links_fit n links from to ≡ true
unfolding links_fit
links_fit_lem {n} {links} {from} {to} w =
    and_make _ _ (le-leb links 128 w.few_links) (every_make (joins n from to) links (λ k h. and_make _ _ (lt-ltb _ _ (w.from_in k h)) (lt-ltb _ _ (w.to_in k h))))

pub slots_fit_lem : {n slot count : ℕ} {routers : List ℕ} → SlotsWithin n slot count routers → slots_fit n slot count routers ≡ true
unfolding slots_fit
slots_fit_lem {n} {slot} {count} {routers} w = and_make _ _ (le-leb _ 1024 w.few) (every_make (attaches n slot routers) count (λ s h. lt-ltb _ _ (w.router_in s h)))

-- ---- what a test that passed tells

pub cells_give : (n cells : ℕ) → cells_fit n cells ≡ true → (n ≤ 64) × (n * n ≤ cells)
unfolding cells_fit
cells_give n cells e = (leb-true n 64 (and_left _ _ e), leb-true (n * n) cells (and_right (leb n 64) _ e))

pub links_give : (n links : ℕ) (from to : List ℕ) → n ≤ 64 → links_fit n links from to ≡ true → ColumnsWithin n links from to
unfolding links_fit
links_give n links from to few e =
    let each = every_gives (joins n from to) links (and_right (leb links 128) _ e) in
    record {
      few_routers = few;
      few_links = leb-true links 128 (and_left _ _ e);
      from_in = λ k h. ltb-true _ _ (and_left _ _ (each k h));
      to_in = λ k h. ltb-true _ _ (and_right (ltb (get_or from k 0) n) _ (each k h));
    }

pub slots_give : (n slot count : ℕ) (routers : List ℕ) → slots_fit n slot count routers ≡ true → SlotsWithin n slot count routers
unfolding slots_fit
slots_give n slot count routers e = record {
  few = leb-true _ 1024 (and_left _ _ e);
  router_in = λ s h. ltb-true _ _ (every_gives (attaches n slot routers) count (and_right (leb (slot + count) 1024) _ e) s h);
}
