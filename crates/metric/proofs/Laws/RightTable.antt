-- The filled area is a right table, and a right table holds the distances. The test at each arc is that of lfa's `Local`.
-- Assumes nothing.
use Rattle.std.specs.Prelude.{ℕ, ◌+◌, ◌*◌, ◌≤◌, ◌<◌, ◌≡◌, refl, Bool, true, false, ◌&&◌, ◌⊎◌, ltb, length}
use Rattle.std.proofs.Common.{sym, ap, ◌∙◌, inl, inr, arith}
use mathlib.Core.List.{List, Memᴰ}
use Rattle.std.proofs.Math.Decide.{ℕ_discrete, dec_lt}
use borrow.Author.Tests.{le-ltb, eq-eqb, ne_eqb}
use Rattle.lfa.specs.Network.{Arc, arc, Network, arcs}
use Rattle.lfa.specs.Distance.{unreachable, LeastCosts, distances, distance_in, filled}
use Rattle.lfa.specs.Sound.{Within, Descends}
use Rattle.lfa.proofs.Laws.Distance.{distances_least}
use Rattle.lfa.proofs.Laws.Local.{Local, local_distances, distances_local, distances_unique}
use Rattle.lfa.proofs.Laws.Work.{work_cell}
use Rattle.metric.specs.RightTable.{RightTable}
use Rattle.metric.specs.Area.{area_cell, held}
use Rattle.metric.proofs.Laws.Area.{held_cell, area_filled_lem}

module _ (n : ℕ) (area : List ℕ) (x t : ℕ) where
  outside : (n ≤ x) ⊎ (n ≤ t) → (ltb x n && ltb t n) ≡ false
  outside (inl h) = rw (le-ltb x n h)
  outside (inr h) = go (ltb x n) (le-ltb t n h)
    where
      go : (b : Bool) → ltb t n ≡ false → (b && ltb t n) ≡ false
      go true e = e
      go false e = refl

  held_self : (n ≤ x) ⊎ (n ≤ t) → x ≡ t → held n area x t ≡ 0
  unfolding held
  held_self o e = rw (outside o, eq-eqb x t e, held)

  held_out : (n ≤ x) ⊎ (n ≤ t) → (x ≡ t → ⊥) → held n area x t ≡ unreachable
  unfolding held
  held_out o e = rw (outside o, ne_eqb x t e, held)

-- two numbers, by whether they lie in the table
sides : (n x t : ℕ) → ((x < n) × (t < n)) ⊎ ((n ≤ x) ⊎ (n ≤ t))
sides n x t = go (dec_lt x n) (dec_lt t n)
  where
    go : Dec (x < n) → Dec (t < n) → ((x < n) × (t < n)) ⊎ ((n ≤ x) ⊎ (n ≤ t))
    go (yes a) (yes b) = inl (a, b)
    go (no a) _ = inr (inl (omega arith))
    go (yes a) (no b) = inr (inr (omega arith))

module _ (hops : List Arc) (n : ℕ) (area : List ℕ) (within : Within hops n) (right : RightTable hops n area) where
  right_local : Local hops (held n area)
  right_local = record { self = self; hop = λ t m. hop t m; first = first; most = most }
    where
      self : (x : ℕ) → held n area x x ≡ 0
      self x = go (sides n x x)
        where
          go : ((x < n) × (x < n)) ⊎ ((n ≤ x) ⊎ (n ≤ x)) → held n area x x ≡ 0
          go (inl h) = held_cell n area x x h.0 h.0 ∙ right.diagonal x h.0
          go (inr o) = held_self n area x x o refl

      hop : {x z c l : ℕ} (t : ℕ) → Memᴰ (arc x z c l) hops → held n area x t ≤ c + held n area z t
      hop {x} {z} {c} t m = go (dec_lt t n)
        where
          go : Dec (t < n) → held n area x t ≤ c + held n area z t
          go (yes h) = rw (held_cell n area x t (within.from m) h, held_cell n area z t (within.to m) h) (right.slack t h m)
          go (no h) = omega (
            arith,
            within.from m,
            within.to m,
            held_out n area x t (inr (omega arith)) (λ e. omega (arith, within.from m)),
            held_out n area z t (inr (omega arith)) (λ e. omega (arith, within.to m)),
          )

      most : (x t : ℕ) → held n area x t ≤ unreachable
      most x t = go (sides n x t) (ℕ_discrete x t)
        where
          go : ((x < n) × (t < n)) ⊎ ((n ≤ x) ⊎ (n ≤ t)) → Dec (x ≡ t) → held n area x t ≤ unreachable
          go (inl h) _ = rw (held_cell n area x t h.0 h.1) (right.most x t h.0 h.1)
          go (inr o) (yes e) = omega (arith, held_self n area x t o e)
          go (inr o) (no e) = omega (arith, held_out n area x t o e)

      first : (x t : ℕ) → held n area x t < unreachable →
          (x ≡ t) ⊎ ((z : ℕ) × (c : ℕ) × (l : ℕ) × Memᴰ (arc x z c l) hops × (c + held n area z t ≡ held n area x t))
      first x t f = go (sides n x t) (ℕ_discrete x t)
        where
          Shown : Type 0
          Shown = (x ≡ t) ⊎ ((z : ℕ) × (c : ℕ) × (l : ℕ) × Memᴰ (arc x z c l) hops × (c + held n area z t ≡ held n area x t))

          tight : t < n → x < n → (x ≡ t) ⊎ ((z : ℕ) × (c : ℕ) × (l : ℕ) × Memᴰ (arc x z c l) hops × (c + area_cell n area z t ≡ area_cell n area x t)) → Shown
          tight ht hx (inl e) = inl e
          tight ht hx (inr (z, c, l, m, e)) = inr (z, c, l, m, ap (λ (k : ℕ). c + k) (held_cell n area z t (within.to m) ht) ∙ e ∙ sym (held_cell n area x t hx ht))

          go : ((x < n) × (t < n)) ⊎ ((n ≤ x) ⊎ (n ≤ t)) → Dec (x ≡ t) → Shown
          go (inl h) _ = tight h.1 h.0 (right.shown x t h.0 h.1 (omega (arith, held_cell n area x t h.0 h.1)))
          go (inr o) (yes e) = inl e
          go (inr o) (no e) = absurd (omega (arith, held_out n area x t o e))

  -- A right table holds the least costs of paths, where the hops descend: what makes it right is what `Local` asks at each arc, and only
  -- the distances have that.
  pub right_least : {height : ℕ → ℕ} → Descends hops height → (d : ℕ → ℕ → ℕ) → LeastCosts hops d → (x t : ℕ) → x < n → t < n → area_cell n area x t ≡ d x t
  right_least descends d least x t hx ht = sym (held_cell n area x t hx ht)
      ∙ distances_unique hops (held n area) d (local_distances hops (held n area) right_local descends) least x t

module _ (net : Network) (within : Within (arcs net) net.routers) where
  -- the filled area is a right table
  pub filled_right : (w : List ℕ) → RightTable (arcs net) net.routers (filled net w)
  unfolding distances
  filled_right w = record {
    diagonal = λ x h. cell x x h h ∙ d.self x;
    slack = λ t h m. rw (cell _ t (within.from m) h, cell _ t (within.to m) h) (d.hop t m);
    shown = λ x t hx ht f. shown x t hx ht (d.first x t (rw (cell x t hx ht) at f));
    most = λ x t hx ht. rw (cell x t hx ht) (d.most x t);
  }
    where
      d : Local (arcs net) (distance_in (distances net))
      d = distances_local (distances_least net.routers (arcs net) within)

      cell : (x t : ℕ) → x < net.routers → t < net.routers → area_cell net.routers (filled net w) x t ≡ distance_in (distances net) x t
      cell x t hx ht = work_cell net w x t hx ht

      shown : (x t : ℕ) → x < net.routers → t < net.routers →
          (x ≡ t) ⊎ ((z : ℕ) × (c : ℕ) × (l : ℕ) × Memᴰ (arc x z c l) (arcs net) × (c + distance_in (distances net) z t ≡ distance_in (distances net) x t)) →
          (x ≡ t) ⊎ ((z : ℕ) × (c : ℕ) × (l : ℕ) × Memᴰ (arc x z c l) (arcs net)
          × (c + area_cell net.routers (filled net w) z t ≡ area_cell net.routers (filled net w) x t))
      shown x t hx ht (inl e) = inl e
      shown x t hx ht (inr (z, c, l, m, e)) = inr (z, c, l, m, ap (λ (k : ℕ). c + k) (cell z t (within.to m) ht) ∙ e ∙ sym (cell x t hx ht))

  -- An area that is a right table is filled already, whoever filled it: its cells are the distances, and the fill leaves the others.
  pub right_filled : {height : ℕ → ℕ} → Descends (arcs net) height → (area : List ℕ) → net.routers * net.routers ≤ length area → RightTable (arcs net) net.routers area → area ≡ filled net area
  unfolding distances
  right_filled descends area enough right = area_filled_lem net area enough
      (λ x t hx ht. right_least (arcs net) net.routers area within right descends (distance_in (distances net)) (distances_least net.routers (arcs net) within) x t hx ht)
