-- The cells before elimination: arc by arc they come to hold the costs of the cheapest arcs.
-- Assumes nothing.
use Prim.Native.Nat.{ℕ, ◌+◌, ◌*◌, ◌≤◌, ◌<◌, min}
use mathlib.Core.Path.{◌≡◌, refl, sym, ap, ◌∙◌}
use mathlib.Core.Bool.{Bool, true, false, ◌&&◌}
use mathlib.Core.Logic.{◌⊎◌, inl, inr}
use mathlib.Core.List.Memᴰ
use mathlib.Core.List.{List, [], ◌∷◌, ◌++◌, map, map-append, append_assoc, append-nil, Memᴰ}
use native.Mathlib.Omega.{arith}
use lib.Arith.{digits_lt}
use lib.Dec.{eqb}
use lib.ListN.{length, get_or, set, replicate, length-set, length-replicate}
use lib.Seq.{get_or-set_same, get_or-set_other}
use Rattle.std.proofs.lemmas.List.{get_or-replicate}
use borrow.Author.Tests.{eq-eqb, eqb-true}
use Rattle.lfa.specs.Lists.{below, count_up}
use Rattle.lfa.specs.Network.{Arc, arc, arcs_from}
use Rattle.lfa.specs.Distance.{unreachable, least, hop_cost}
use Rattle.lfa.proofs.Laws.Test.{and_left, and_right, and_make}
use Rattle.lfa.proofs.Laws.Hop.{least_most}
use Rattle.metric.specs.Area.{area_cell}
use Rattle.metric.specs.Columns.{links_in, arcs_in}
use Rattle.metric.proofs.Laws.List.{map_below_more}
use Rattle.metric.proofs.Laws.Columns.{arcs_in_more}
use Rattle.distance.specs.Cells.{limit, Cells, Limited, cheapest, self_loops, Lowered, CostsCapped}
use Rattle.distance.proofs.StoreLaws.{square_few, one_place}

-- ---- one arc more

-- the place of a cell
pub place_in : {n : ℕ} {cells : List ℕ} (a b : ℕ) → Limited n cells → a < n → b < n → (a * n + b < length cells) × (a * n + b < 4096)
place_in {n} a b limited ha hb = omega (arith, digits_lt ha hb, square_few n limited.few, limited.long)

-- the cell of a and b is lowered to a cost
pub lowered_cell : {n : ℕ} {cells : List ℕ} (a b c : ℕ) → a < n → b < n → Limited n cells → Lowered n a b c cells (set cells (a * n + b) (min (area_cell n cells a b) c))
unfolding hop_cost
lowered_cell {n} {cells} a b c ha hb limited = record {
  long = length-set cells (a * n + b) _ ∙ limited.long;
  cell = λ i j hi hj. go i j hi hj (eqb a i && eqb b j) refl;
}
  where
    go : (i j : ℕ) → i < n → j < n → (t : Bool) → (eqb a i && eqb b j) ≡ t →
        area_cell n (set cells (a * n + b) (min (area_cell n cells a b) c)) i j ≡ min (area_cell n cells i j) (elim t as (λ _. ℕ) [ true ↦ c | false ↦ unreachable ])
    go i j hi hj true e =
        let ea : a ≡ i = eqb-true a i (and_left (eqb a i) (eqb b j) e) in
        let eb : b ≡ j = eqb-true b j (and_right (eqb a i) (eqb b j) e) in
        rw (← ea, ← eb) (get_or-set_same cells (a * n + b) _ 0 (place_in a b limited ha hb).0)
    go i j hi hj false e =
        get_or-set_other cells (a * n + b) (i * n + j) _ 0 (λ same. apart (one_place hj hb same)) ∙ omega (arith, limited.small i j hi hj)
      where
        apart : (i ≡ a) × (j ≡ b) → ⊥
        apart (p, q) = let t : true ≡ false = sym (and_make _ _ (eq-eqb a i (sym p)) (eq-eqb b j (sym q))) ∙ e in let z : ◌≡◌ {A = ℕ} 0 1 = cc in omega arith

pub lowered_limited : {n a b c : ℕ} {before after : List ℕ} → Limited n before → Lowered n a b c before after → Limited n after
lowered_limited limited lowered = record { few = limited.few; long = lowered.long; small = λ i j hi hj. omega (arith, lowered.cell i j hi hj, limited.small i j hi hj) }

-- ---- the cheapest arcs

pub cheapest_limited : {n : ℕ} {cells : List ℕ} (hops : List Arc) → n ≤ 64 → Cells n (cheapest hops) cells → Limited n cells
unfolding cheapest
cheapest_limited hops few cells = record { few = few; long = cells.long; small = λ i j hi hj. omega (arith, cells.cell i j hi hj) }

-- every cell is the limit
pub cheapest_none : (n m : ℕ) {cells : List ℕ} → m ≡ n * n → cells ≡ replicate m limit → Cells n (cheapest (self_loops 0)) cells
unfolding cheapest self_loops below count_up least
cheapest_none n m long is = record {
  long = ap length is ∙ length-replicate m limit ∙ long;
  cell = λ i j hi hj. rw is (get_or-replicate m (i * n + j) limit 0 (omega (arith, digits_lt hi hj)));
}

least_append : (k l : List ℕ) → least (k ++ l) ≡ min (least k) (least l)
unfolding least
least_append [] l = omega (arith, least_most l)
least_append (x ∷ k) l = omega (arith, least_append k l)

costs_append : (i j : ℕ) (k l : List Arc) → least (map (hop_cost i j) (k ++ l)) ≡ min (least (map (hop_cost i j) k)) (least (map (hop_cost i j) l))
costs_append i j k l = ap least (map-append (hop_cost i j) k l) ∙ least_append (map (hop_cost i j) k) (map (hop_cost i j) l)

-- one arc more; the number of its link does not matter
pub cheapest_more : {n a b c : ℕ} {xs ys : List ℕ} (hops : List Arc) (l : ℕ) → Cells n (cheapest hops) xs → Lowered n a b c xs ys → Cells n (cheapest (hops ++ (arc a b c l ∷ []))) ys
unfolding cheapest least hop_cost
cheapest_more {a} {b} {c} hops l cells lowered = record {
  long = lowered.long;
  cell = λ i j hi hj. omega (arith, costs_append i j hops (arc a b c l ∷ []), cells.cell i j hi hj, lowered.cell i j hi hj);
}

pub loops_more : {n x : ℕ} {xs ys : List ℕ} → Cells n (cheapest (self_loops x)) xs → Lowered n x x 0 xs ys → Cells n (cheapest (self_loops (x + 1))) ys
unfolding self_loops
loops_more {x} cells lowered = rw (map_below_more (λ r. arc r r 0 0) x) (cheapest_more (self_loops x) 0 cells lowered)

-- ---- the links

pub linked_none : (from to out back : List ℕ) {n : ℕ} {cells : List ℕ} → Cells n (cheapest (self_loops n)) cells →
    CostsCapped (arcs_in from to out back 0) × Cells n (cheapest (self_loops n ++ arcs_in from to out back 0)) cells
unfolding arcs_in links_in below count_up arcs_from
linked_none from to out back cells = (record { cost = λ m. absurd (Memᴰ.not-nil m) }, rw append-nil cells)

-- both directions of one link more
pub linked_more : (from to out back : List ℕ) (k : ℕ) {n a b c d : ℕ} {xs ys zs : List ℕ} →
    a ≡ get_or from k 0 → b ≡ get_or to k 0 → c ≡ get_or out k 0 → d ≡ get_or back k 0 → (c ≤ 65535) × Lowered n a b c xs ys → (d ≤ 65535) × Lowered n b a d ys zs →
    CostsCapped (arcs_in from to out back k) × Cells n (cheapest (self_loops n ++ arcs_in from to out back k)) xs →
    CostsCapped (arcs_in from to out back (k + 1)) × Cells n (cheapest (self_loops n ++ arcs_in from to out back (k + 1))) zs
linked_more from to out back k {n} {a} {b} {c} {d} ea eb ec ed first second (capped, cells) =
    rw (arcs_in_more, ← ea, ← eb, ← ec, ← ed) (
      record { cost = λ m. go (Memᴰ.append_cases hops m) },
      simp append_assoc at (cheapest_more ((self_loops n ++ hops) ++ (arc a b c k ∷ [])) k (cheapest_more (self_loops n ++ hops) k cells first.1) second.1),
    )
  where
    hops : List Arc
    hops = arcs_in from to out back k

    go : {x z e l : ℕ} → Memᴰ (arc x z e l) hops ⊎ Memᴰ (arc x z e l) (arc a b c k ∷ arc b a d k ∷ []) → e ≤ 65535
    go (inl m) = capped.cost m
    go {e} (inr (Memᴰ.head p)) = let s : e ≡ c = cc in omega (arith, first.0)
    go {e} (inr (Memᴰ.tail (Memᴰ.head p))) = let s : e ≡ d = cc in omega (arith, second.0)
    go {z = z} {e = e} {l = l} (inr (Memᴰ.tail (Memᴰ.tail x11))) = elim x11 [ ]
