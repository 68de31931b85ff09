-- Laws of the columns of a network.
-- Assumes nothing.
use Prim.Native.Nat.{suc, ◌+◌, ℕ, ◌<◌}
use Rattle.std.proofs.Common.{◌∙◌, subst, sym, ap, inl, inr, add-zero, arith}
use Rattle.std.specs.Prelude.{◌≡◌, length, get_or}
use mathlib.Core.List.{[], ◌∷◌, ◌++◌, List, map, Memᴰ}
use Rattle.lfa.specs.Network.{Arc, arc, Link, link, Network, arcs_from, arcs}
use Rattle.lfa.specs.Sound.{Within}
use Rattle.lfa.proofs.Laws.Network.{arcs_give, Direction, LinkSound, LinksSound, limits_links}
use Rattle.lfa.specs.Lists.{below}
use Rattle.lfa.specs.FileOf.{WithinLimits}
use Rattle.lfa.proofs.Laws.List.{get_d_in}
use Rattle.lfa.proofs.Laws.Counting.{length_map_below, map_below_at}
use Rattle.metric.proofs.Laws.List.{map_below_more}
use Rattle.metric.specs.Fit.{ColumnsWithin}
use Rattle.metric.specs.Columns.{links_in, arcs_in, InColumns}

-- link k of the columns is a link between routers, where the network's links are
pub link_held_lem : {net : Network} {height : ℕ → ℕ} {n links : ℕ} {from to out back : List ℕ} → LinksSound net height → InColumns net n links from to out back → (k : ℕ) → k < links →
    LinkSound n height (get_or from k 0) (get_or to k 0) (get_or out k 0) (get_or back k 0)
unfolding links_in
link_held_lem {net} {height} {n} {links} {from} {to} {out} {back} sound c k h =
    let f : ℕ → Link = λ k. link (get_or from k 0) (get_or to k 0) (get_or out k 0) (get_or back k 0) in
    let m : Memᴰ (f k) (map f (below links)) = mathlib.Core.List.Memᴰ.cast (sym (map_below_at f (link 0 0 0 0) links k h))
    (get_d_in (map f (below links)) k (link 0 0 0 0) (omega (arith, length_map_below f links))) in
    let w : LinkSound net.routers height (get_or from k 0) (get_or to k 0) (get_or out k 0) (get_or back k 0) = sound.link_sound (rw c.links_are m) in
    rw c.routers_are at w

-- columns that hold the links of a network within the limits
pub limits_columns : {net : Network} {n links : ℕ} {from to out back : List ℕ} → WithinLimits net → InColumns net n links from to out back → ColumnsWithin n links from to
unfolding links_in
limits_columns {net} {n} {links} {from} {to} {out} {back} limits c = record {
  few_routers = omega (arith, limits.few_routers, c.routers_are);
  few_links = omega (arith, limits.few_links, ap length c.links_are, length_map_below (λ k. link (get_or from k 0) (get_or to k 0) (get_or out k 0) (get_or back k 0)) links);
  from_in = λ k h. (link_held_lem (limits_links limits) c k h).a_in;
  to_in = λ k h. (link_held_lem (limits_links limits) c k h).b_in;
}

-- the arcs of a network are those of its columns
pub arcs_columns : {net : Network} {routers links : ℕ} {from to out back : List ℕ} → InColumns net routers links from to out back → arcs net ≡ arcs_in from to out back links
unfolding arcs arcs_in
arcs_columns c = ap (arcs_from 0) c.links_are

module _ (from to out back : List ℕ) (links : ℕ) where
  -- the arcs of the links lead from and to routers below n
  pub columns_within : (n : ℕ) → ColumnsWithin n links from to → Within (arcs_in from to out back links) n
  unfolding arcs_in links_in
  columns_within n w = record { from = λ m. (sides m).0; to = λ m. (sides m).1 }
    where
      f : ℕ → Link
      f k = link (get_or from k 0) (get_or to k 0) (get_or out k 0) (get_or back k 0)

      both : (k x z c : ℕ) → k < links → Direction (f k) x z c → (x < n) × (z < n)
      both k x z c h (inl e) = omega (arith, w.from_in k h, w.to_in k h, e)
      both k x z c h (inr e) = omega (arith, w.from_in k h, w.to_in k h, e)

      sides : {x z c l : ℕ} → Memᴰ (arc x z c l) (arcs_in from to out back links) → (x < n) × (z < n)
      sides {x} {z} {c} m =
          let r = arcs_give 0 (map f (below links)) m in
          let h : r.0 < links = omega (arith, r.2, length_map_below f links) in
          both r.0 x z c h (subst (λ (k : Link). Direction k x z c) (map_below_at f (link 0 0 0 0) links r.0 h) r.4)

-- ---- the arcs of one link more

arcs_more : (i : ℕ) (links : List Link) (a b ab ba : ℕ) →
    arcs_from i (links ++ (link a b ab ba ∷ [])) ≡ arcs_from i links ++ (arc a b ab (i + length links) ∷ arc b a ba (i + length links) ∷ [])
unfolding arcs_from
arcs_more i [] a b ab ba = rw (add-zero i)
arcs_more i (link a' b' ab' ba' ∷ links) a b ab ba =
    let e : suc i + length links ≡ i + suc (length links) = omega arith in
    ap (λ (l : List Arc). arc a' b' ab' i ∷ arc b' a' ba' i ∷ l) (arcs_more (suc i) links a b ab ba ∙ ap (λ (k : ℕ). arcs_from (suc i) links ++ (arc a b ab k ∷ arc b a ba k ∷ [])) e)

-- the arcs of one link more
pub arcs_in_more : (from to out back : List ℕ) (k : ℕ) →
    arcs_in from to out back (k + 1) ≡ arcs_in from to out back k ++ (arc (get_or from k 0) (get_or to k 0) (get_or out k 0) k ∷ arc (get_or to k 0) (get_or from k 0) (get_or back k 0) k ∷ [])
unfolding arcs_in links_in
arcs_in_more from to out back k =
    let f : ℕ → Link = λ k. link (get_or from k 0) (get_or to k 0) (get_or out k 0) (get_or back k 0) in
    let e : 0 + length (map f (below k)) ≡ k = omega (arith, length_map_below f k) in
    ap (arcs_from 0) (map_below_more f k) ∙ arcs_more 0 (map f (below k)) (get_or from k 0) (get_or to k 0) (get_or out k 0) (get_or back k 0)
    ∙ ap (λ (j : ℕ). arcs_from 0 (map f (below k)) ++ (arc (get_or from k 0) (get_or to k 0) (get_or out k 0) j ∷ arc (get_or to k 0) (get_or from k 0) (get_or back k 0) j ∷ [])) e
