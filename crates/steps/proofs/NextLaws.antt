-- The next routers of each router: what a hop puts in, and one link more.
-- Assumes nothing.
use Prim.Native.Nat.{ℕ, zero, suc, ◌+◌, ◌*◌, ◌/◌, ◌%◌, ◌^◌, ◌≤◌, ◌<◌, min}
use mathlib.Core.Path.{◌≡◌, refl, sym, ap, ap₂, ◌∙◌}
use mathlib.Core.Bool.{Bool, true, false, not, ◌&&◌, ◌||◌, and-true}
use mathlib.Core.List.{List, [], ◌∷◌, ◌++◌, map, append_assoc}
use native.Mathlib.Nat.{not-suc-le-zero}
use native.Mathlib.Omega.{arith}
use lib.Dec.{eqb}
use lib.ListN.{get_or, set, replicate}
use lib.Pow.{shl_exact}
use lib.Bits.{bit_and, bit_or}
use borrow.Author.Tests.{lt-ltb, le-ltb, eq-eqb, ne_eqb}
use Rattle.lfa.specs.Lists.{count_up, below, any_of}
use Rattle.lfa.specs.Network.{Arc, arc, arcs_from}
use Rattle.lfa.specs.Distance.{unreachable}
use Rattle.lfa.specs.Space.{has, set_of}
use Rattle.lfa.proofs.Laws.Counting.{map_below_at}
use Rattle.lfa.proofs.Laws.List.{from_counted}
use Rattle.lfa.proofs.Laws.Set.{set_of_same}
use Rattle.lfa.proofs.Laws.Test.{fails_right}
use Rattle.metric.specs.Columns.{links_in, arcs_in}
use Rattle.metric.proofs.Laws.Columns.{arcs_in_more}
use Rattle.metric.proofs.Laws.List.{any_more}
use Rattle.metric.proofs.Laws.Select.{map_same}
use Rattle.metric.proofs.Laws.Set.{or_set_of, set_of_none, one_router_lem, has_bit, has_no_bit}
use Rattle.steps.specs.Steps.{is_tight, step_to, next_by, nexts_in}

-- ---- a hop

module _ (ends : ℕ) (target : ℕ → ℕ) (u v c : ℕ) where
  pub at_end : bit_and (ends / 2 ^ u) 1 ≡ 1 → false ≡ is_tight ends target u v c
  unfolding is_tight
  at_end e = let t : has ends u ≡ true = has_bit ends u e in rw (t, is_tight)

  pub not_reached : unreachable ≤ target u → false ≡ is_tight ends target u v c
  unfolding is_tight
  not_reached h = sym (fails_right (not (has ends u) && eqb (min (c + target v) unreachable) (target u)) _ (le-ltb _ _ h))

  pub by_sum : {sum : ℕ} → (bit_and (ends / 2 ^ u) 1 ≡ 1 → ⊥) → target u < unreachable → sum ≡ min (c + target v) unreachable → eqb sum (target u) ≡ is_tight ends target u v c
  unfolding is_tight
  by_sum {sum} on f e =
      let goes_on : has ends u ≡ false = has_no_bit ends u on in
      rw (goes_on, lt-ltb (target u) unreachable f, is_tight, ← e) (sym (and-true (eqb sum (target u))))

  -- it as a set
  abbrev pub Hop : ℕ → Bool
  Hop z = is_tight ends target u v c && eqb v z

-- ---- the set of one router

pub none_if : {b : Bool} (x : ℕ) → b ≡ false → 0 ≡ set_of 64 (λ z. b && eqb x z)
none_if {b} x e = set_of_none 64 ∙ set_of_same 64 (λ z. false) (λ z. b && eqb x z) (λ z i. ap (λ (b : Bool). b && eqb x z) (sym e))

pub one_if : {b : Bool} (x : ℕ) → x < 64 → b ≡ true → (1 * 2 ^ x) % 2 ^ 64 ≡ set_of 64 (λ z. b && eqb x z)
one_if {b} x h e =
    shl_exact 1 x 64 (omega arith) (omega arith) ∙ omega arith ∙ sym (one_router_lem 64 x h)
    ∙ set_of_same 64 (λ z. eqb x z) (λ z. b && eqb x z) (λ z i. ap (λ (b : Bool). b && eqb x z) (sym e))

-- ---- one cell of a list that is made of numbers counted

set_counted : (f g : ℕ → ℕ) (a n i y : ℕ) → i < n → y ≡ g (a + i) → ((x : ℕ) → (x ≡ a + i → ⊥) → f x ≡ g x) → set (map f (count_up a n)) i y ≡ map g (count_up a n)
unfolding count_up
set_counted f g a zero i y h e other = absurd (not-suc-le-zero h)
set_counted f g a (suc n) zero y h e other =
    let k : a + 0 ≡ a = omega arith in
    ap₂ (λ (w : ℕ) (l : List ℕ). w ∷ l) (e ∙ ap g k) (map_same f g (count_up (suc a) n) (λ x m. other x (λ q. absurd (let far : suc a ≤ x = from_counted (suc a) n x m in omega arith))))
set_counted f g a (suc n) (suc i) y h e other =
    let k : a + suc i ≡ suc a + i = omega arith in
    ap₂ (λ (w : ℕ) (l : List ℕ). w ∷ l) (other a (λ q. absurd (omega arith))) (set_counted f g (suc a) n i y (omega arith) (e ∙ ap g k) (λ x d. other x (λ q. d (q ∙ k))))

-- ---- the next routers

module _ (ends : ℕ) (target : ℕ → ℕ) where
  nothing_yet : map (λ x. set_of 64 (λ z. false)) (below 64) ≡ replicate 64 0
  unfolding below count_up set_of
  nothing_yet = refl

  pub none_next : (from to out back : List ℕ) → replicate 64 0 ≡ nexts_in ends target (arcs_in from to out back 0)
  unfolding nexts_in next_by arcs_in links_in arcs_from below count_up any_of
  none_next from to out back = sym nothing_yet

  arc_more : (hops : List Arc) (u v c k x z : ℕ) → next_by ends target (hops ++ (arc u v c k ∷ [])) x z ≡ (next_by ends target hops x z || (eqb u x && Hop ends target u v c z))
  unfolding next_by step_to
  arc_more hops u v c k x z = any_more (step_to ends target x z) hops (arc u v c k)

  -- One arc more: only the set of the router that it leaves grows, by the router that it leads to where it is a step.
  put : {l : List ℕ} {s : ℕ} (hops : List Arc) (u v c k : ℕ) → u < 64 → l ≡ nexts_in ends target hops → s ≡ set_of 64 (Hop ends target u v c) →
      set l u (bit_or (get_or l u 0) s) ≡ nexts_in ends target (hops ++ (arc u v c k ∷ []))
  unfolding nexts_in below
  put {l} {s} hops u v c k hu e se =
      ap (λ (t : List ℕ). set t u (bit_or (get_or t u 0) s)) e
      ∙ set_counted before after 0 64 u (bit_or (get_or (map before (below 64)) u 0) s) hu grown other
    where
      before : ℕ → ℕ
      before x = set_of 64 (next_by ends target hops x)

      after : ℕ → ℕ
      after x = set_of 64 (next_by ends target (hops ++ (arc u v c k ∷ [])) x)

      more : (x z : ℕ) → next_by ends target (hops ++ (arc u v c k ∷ [])) x z ≡ (next_by ends target hops x z || (eqb u x && Hop ends target u v c z))
      more = arc_more hops u v c k

      grown : bit_or (get_or (map before (below 64)) u 0) s ≡ after (0 + u)
      grown =
          let z : 0 + u ≡ u = omega arith in
          ap₂ bit_or (map_below_at before 0 64 u hu) se ∙ or_set_of 64 (next_by ends target hops u) (Hop ends target u v c)
          ∙ set_of_same 64 _ (next_by ends target (hops ++ (arc u v c k ∷ [])) u) (λ y i. sym (more u y ∙ ap (λ (b : Bool). next_by ends target hops u y || (b && Hop ends target u v c y)) (eq-eqb u u refl)))
          ∙ ap after (sym z)

      other : (x : ℕ) → (x ≡ 0 + u → ⊥) → before x ≡ after x
      other x d = set_of_same 64 (next_by ends target hops x) (next_by ends target (hops ++ (arc u v c k ∷ [])) x) (λ y i. sym (more x y ∙ by (Hop ends target u v c y) (next_by ends target hops x y) (eqb u x) (ne_eqb u x (λ q. d (omega (arith, q))))))
        where
          by : (h a b : Bool) → b ≡ false → (a || (b && h)) ≡ a
          by h true b e = refl
          by h false b e = ap (λ (t : Bool). t && h) e

  -- one link more: its two hops, each put to the set of the router that it leaves
  pub next_more : {u v c d : ℕ} {l m r : List ℕ} (from to out back : List ℕ) (k : ℕ) → u ≡ get_or from k 0 → v ≡ get_or to k 0 → c ≡ get_or out k 0 → d ≡ get_or back k 0 → u < 64 → v < 64 →
      l ≡ nexts_in ends target (arcs_in from to out back k) → m ≡ set l u (bit_or (get_or l u 0) (set_of 64 (Hop ends target u v c))) →
      r ≡ set m v (bit_or (get_or m v 0) (set_of 64 (Hop ends target v u d))) → r ≡ nexts_in ends target (arcs_in from to out back (k + 1))
  next_more {u} {v} {c} {d} from to out back k u-is v-is c-is d-is hu hv e me re =
      let there : Arc = arc u v c k in
      let home : Arc = arc v u d k in
      let hops : List Arc = arcs_in from to out back k in
      let two : hops ++ (there ∷ home ∷ []) ≡ arcs_in from to out back (k + 1) = rw (u-is, v-is, c-is, d-is) (sym (arcs_in_more from to out back k)) in
      re ∙ put (hops ++ (there ∷ [])) v u d k hv (me ∙ put hops u v c k hu e refl) refl ∙ ap (nexts_in ends target) (append_assoc hops (there ∷ []) (home ∷ []) ∙ two)
