-- The work area: cell x × N + t holds D(x,t), and the cells from N × N on are untouched.
-- Assumes nothing.
use Prim.Native.Nat.{ℕ, zero, suc, ◌+◌, ◌-◌, ◌*◌, ◌≤◌, ◌<◌}
use Rattle.std.specs.Prelude.{◌≡◌, refl, ◌⊎◌, true, false, List, [], ◌++◌, map, eqb, drop}
use Rattle.std.proofs.Common.{sym, ◌∙◌, inl, inr, arith, mul_comm, length-append, length-drop, eqb-true, eq-eqb}
use Rattle.std.proofs.Math.Path.{ap}
use Rattle.std.proofs.Math.ListN.{get_or, length}
use Rattle.std.proofs.Math.Seq.{get_or-append-add, get_or-drop}
use Rattle.lfa.specs.Lists.{below, flat, table, cell}
use Rattle.lfa.specs.Network.{Arc, Network, arcs}
use Rattle.lfa.specs.Distance.{unreachable, direct, through, stage, distances, distance_in, filled}
use Rattle.lfa.proofs.Laws.Test.{decide}
use Rattle.lfa.proofs.Laws.Counting.{length_map_below, map_below_at}
use Rattle.lfa.proofs.Laws.Table.{cell_in_lem}
use Rattle.lfa.proofs.Laws.Chunks.{part_element, EachLong, length_flat, part_flat}

-- ---- tables, row by row

row_long : (n : ℕ) (f : ℕ → ℕ → ℕ) → EachLong n (table n f)
unfolding table
row_long n f i h =
    let k : i < n = omega (arith, length_map_below (λ i. map (f i) (below n)) n) in
    ap length (map_below_at (λ i. map (f i) (below n)) [] n i k) ∙ length_map_below (f i) n

rows : (n : ℕ) (f : ℕ → ℕ → ℕ) → length (table n f) ≡ n
unfolding table
rows n f = length_map_below (λ i. map (f i) (below n)) n

-- cell j of row i stands at i × n + j, whatever follows the table
flat_cell : (n : ℕ) (f : ℕ → ℕ → ℕ) (rest : List ℕ) (i j other : ℕ) → i < n → j < n → get_or (flat (table n f) ++ rest) (i * n + j) other ≡ cell other (table n f) i j
unfolding cell
flat_cell n f rest i j other hi hj =
    rw (mul_comm i n) (
    sym (part_element (flat (table n f) ++ rest) (n * i) n j other hj)
    ∙ ap (λ (r : List ℕ). get_or r j other) (part_flat n (table n f) rest (row_long n f) i (omega (arith, rows n f))))

-- ---- the table of distances

-- each stage is a table
pub stage_table : (n : ℕ) (hops : List Arc) (k : ℕ) → (f : ℕ → ℕ → ℕ) × (stage n hops k ≡ table n f)
unfolding stage through
stage_table n hops zero = (direct hops, refl)
stage_table n hops (suc k) = (_, refl)

-- on the diagonal it holds 0, so that what it holds is what is read from it
stage_diagonal : (n : ℕ) (hops : List Arc) (k x : ℕ) → x < n → cell unreachable (stage n hops k) x x ≡ 0
unfolding stage through direct
stage_diagonal n hops zero x h = cell_in_lem unreachable n (direct hops) x x h h ∙ rw (eq-eqb x x refl, direct)
stage_diagonal n hops (suc k) x h = cell_in_lem unreachable n _ x x h h ∙ omega (arith, stage_diagonal n hops k x h)

stage_read : (n : ℕ) (hops : List Arc) (k x t : ℕ) → x < n → cell unreachable (stage n hops k) x t ≡ distance_in (stage n hops k) x t
unfolding distance_in
stage_read n hops k x t hx = by (decide (eqb x t))
  where
    by : (eqb x t ≡ true) ⊎ (eqb x t ≡ false) → cell unreachable (stage n hops k) x t ≡ distance_in (stage n hops k) x t
    by (inl e) = rw (e, distance_in) (rw (← eqb-true x t e) (stage_diagonal n hops k x hx))
    by (inr e) = rw (e, distance_in)

module _ (net : Network) (w : List ℕ) where
  cells_length : length (flat (distances net)) ≡ net.routers * net.routers
  unfolding distances
  cells_length =
      let t = stage_table net.routers (arcs net) net.routers in
      rw t.1 (length_flat net.routers (table net.routers t.0) (row_long net.routers t.0) ∙ ap (λ (k : ℕ). net.routers * k) (rows net.routers t.0))

  -- "the N × N router distances, row by row, row = start"
  pub work_cell : (x t : ℕ) → x < net.routers → t < net.routers → get_or (filled net w) (x * net.routers + t) 0 ≡ distance_in (distances net) x t
  unfolding filled distances
  work_cell x t hx ht = in_table ∙ stage_read net.routers (arcs net) net.routers x t hx
    where
      s : (f : ℕ → ℕ → ℕ) × (stage net.routers (arcs net) net.routers ≡ table net.routers f)
      s = stage_table net.routers (arcs net) net.routers

      in_table : get_or (filled net w) (x * net.routers + t) 0 ≡ cell unreachable (distances net) x t
      in_table =
          rw s.1 (
          flat_cell net.routers s.0 (drop (net.routers * net.routers) w) x t 0 hx ht
          ∙ cell_in_lem 0 net.routers s.0 x t hx ht ∙ sym (cell_in_lem unreachable net.routers s.0 x t hx ht))

  -- "later cells are untouched"
  pub later_cell : (k : ℕ) → net.routers * net.routers ≤ k → get_or (filled net w) k 0 ≡ get_or w k 0
  unfolding filled
  later_cell k h =
      let e : k ≡ length (flat (distances net)) + (k - net.routers * net.routers) = omega (arith, cells_length) in
      ap (λ (i : ℕ). get_or (filled net w) i 0) e ∙ get_or-append-add (flat (distances net)) (drop (net.routers * net.routers) w) (k - net.routers * net.routers) 0
      ∙ get_or-drop (net.routers * net.routers) w (k - net.routers * net.routers) 0 ∙ ap (λ (i : ℕ). get_or w i 0) (omega arith)

  -- the area keeps its length
  pub work_length : net.routers * net.routers ≤ length w → length (filled net w) ≡ length w
  unfolding filled
  work_length h = simp (length-append, length-drop) (omega (arith, cells_length))
