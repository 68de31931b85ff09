-- Laws of the distances that an area holds.
-- Assumes nothing.
use Rattle.std.specs.Prelude.{ℕ, zero, suc, ◌+◌, ◌*◌, ◌/◌, ◌%◌, ◌≤◌, ◌<◌, ◌≡◌, refl, Bool, true, false, ◌&&◌, ◌⊎◌, List, eqb, ltb, length, get_or}
use Rattle.std.proofs.Common.{sym, ap, ◌∙◌, inl, inr, arith, lt_of_lt_of_le, zero-mul, div-add-mod', mod-lt, div-lt_iff_lt-mul, ext_get_or}
use Rattle.std.proofs.Math.Path.{fun_ext}
use Rattle.std.proofs.Math.Decide.{dec_lt}
use Rattle.std.proofs.Math.Arith.{digits_lt}
use borrow.Author.Tests.{lt-ltb, ltb-true, ltb-false}
use Rattle.lfa.specs.Lists.{cell}
use Rattle.lfa.specs.Network.{Network, arcs}
use Rattle.lfa.specs.Distance.{unreachable, distances, distance_in, filled}
use Rattle.lfa.proofs.Laws.Table.{cell_out}
use Rattle.lfa.proofs.Laws.Work.{stage_table, work_cell, later_cell, work_length}
use Rattle.metric.specs.Area.{area_cell, held, cell_in}
use Rattle.metric.proofs.Laws.Fit.{cells_fit_lem}

-- ---- the area

module _ (n : ℕ) (area : List ℕ) (x t : ℕ) (hx : x < n) (ht : t < n) where
  -- the cell of two routers is in the area, and holds their distance
  pub cell_in_lem : n * n ≤ length area → x * n + t < length area
  cell_in_lem long = lt_of_lt_of_le (digits_lt hx ht) long

  pub held_cell : held n area x t ≡ get_or area (x * n + t) 0
  unfolding held
  held_cell = rw (lt-ltb x n hx, lt-ltb t n ht, held)

  -- What is read for two routers is the distance that the area holds for them: the tests of the read pass, since the area has a cell for
  -- each two of at most 64 routers.
  pub cell_known : {r : ℕ} → n ≤ 64 → n * n ≤ length area → r ≡ cell_in n area x t → r ≡ held n area x t
  unfolding cell_in
  cell_known few long e = e ∙ rw (cells_fit_lem n (length area) few long, lt-ltb x n hx, lt-ltb t n ht, cell_in) (sym held_cell)

-- what holds at the place of each cell holds at each place
pub each_place : {n : ℕ} (P : ℕ → Type 0) → ((x t : ℕ) → x < n → t < n → P (x * n + t)) → (i : ℕ) → i < n * n → P i
each_place {n} P cell i h =
    let some : 0 < n = positive n h in
    rw (div-add-mod' i n) at (cell (i / n) (i % n) ((div-lt_iff_lt-mul some).1 h) (mod-lt i some))
  where
    positive : (n : ℕ) {i : ℕ} → i < n * n → 0 < n
    positive zero h = absurd (omega (arith, zero-mul 0))
    positive (suc n) h = omega arith

-- ---- the table of distances

-- a number that is no router is unreachable from every other
distance_out : (net : Network) (x t : ℕ) → (net.routers ≤ x) ⊎ (net.routers ≤ t) → cell unreachable (distances net) x t ≡ unreachable
unfolding distances
distance_out net x t o =
    let s = stage_table net.routers (arcs net) net.routers in
    rw s.1 (cell_out unreachable net.routers s.0 x t o)

-- ---- the area that was filled

-- The filled area holds the distances of the network, also of numbers that are no routers.
pub held_filled : (net : Network) (area : List ℕ) → held net.routers (filled net area) ≡ distance_in (distances net)
unfolding held distance_in
held_filled net area = fun_ext (λ x. fun_ext (λ t. go x t (ltb x net.routers) refl (ltb t net.routers) refl))
  where
    outside : (x t : ℕ) → (net.routers ≤ x) ⊎ (net.routers ≤ t) → elim (eqb x t) as (λ _. ℕ) [ true ↦ 0 | false ↦ unreachable ] ≡ distance_in (distances net) x t
    outside x t o = ap (λ (k : ℕ). elim (eqb x t) as (λ _. ℕ) [ true ↦ 0 | false ↦ k ]) (sym (distance_out net x t o))

    go : (x t : ℕ) (a : Bool) → ltb x net.routers ≡ a → (b : Bool) → ltb t net.routers ≡ b →
        elim (a && b) as (λ _. ℕ) [ true ↦ get_or (filled net area) (x * net.routers + t) 0 | false ↦ elim (eqb x t) as (λ _. ℕ) [ true ↦ 0 | false ↦ unreachable ] ] ≡ distance_in (distances net) x t
    go x t true e true f = work_cell net area x t (ltb-true x net.routers e) (ltb-true t net.routers f)
    go x t true e false f = outside x t (inr (ltb-false t net.routers f))
    go x t false e b f = outside x t (inl (ltb-false x net.routers e))

-- an area that holds the network's distances is filled already
pub area_filled_lem : (net : Network) (area : List ℕ) → net.routers * net.routers ≤ length area →
    ((x t : ℕ) → x < net.routers → t < net.routers → area_cell net.routers area x t ≡ distance_in (distances net) x t) → area ≡ filled net area
area_filled_lem net area enough cell = ext_get_or 0 area (filled net area) (sym (work_length net area enough)) (λ i h. go i (dec_lt i (net.routers * net.routers)))
  where
    go : (i : ℕ) → Dec (i < net.routers * net.routers) → get_or area i 0 ≡ get_or (filled net area) i 0
    go i (yes l) = each_place (λ i. get_or area i 0 ≡ get_or (filled net area) i 0) (λ x t hx ht. cell x t hx ht ∙ sym (work_cell net area x t hx ht)) i l
    go i (no l) = sym (later_cell net area i (omega arith))
