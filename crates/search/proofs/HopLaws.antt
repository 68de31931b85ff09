-- Laws of the first hops: the arcs of the columns by their numbers, and the column of those that are first hops.
-- Assumes nothing.
use Prim.Native.Nat.{ℕ, zero, suc, ◌+◌, ◌*◌, ◌/◌, ◌≤◌, ◌<◌}
use mathlib.Core.Path.{◌≡◌, refl, sym, ap, ap₂, ◌∙◌}
use mathlib.Core.Bool.{Bool, true, false, ◌||◌}
use mathlib.Core.List.{List, [], ◌∷◌, ◌++◌, map, map-map, append-nil, append_assoc}
use native.Mathlib.Numerals.{add-one}
use native.Mathlib.Omega.{arith}
use lib.Dec.{eqb}
use lib.ListN.{length, get_or, set, length-set}
use lib.Seq.{get_or-set_same, get_or-set_other}
use Rattle.lfa.specs.Lists.{count_up, below, select, keep_if}
use Rattle.lfa.specs.Network.{Arc, arc, arcs_from}
use Rattle.lfa.proofs.Laws.Counting.{map_below_same}
use Rattle.lfa.proofs.Laws.Test.{or_false_left, or_false_right}
use Rattle.lfa.specs.Space.{Protected, is_first, hop_over, first_hops}
use Rattle.metric.specs.Columns.{links_in, arcs_in}
use Rattle.metric.proofs.Laws.List.{below_more, map_below_more, select_append}
use Rattle.metric.proofs.Laws.Columns.{arcs_in_more}
use Rattle.arcs.specs.Arcs.{side_of, leaves_near, hop_by}
use Rattle.arcs.proofs.ArcLaws.{reads_there, reads_back}
use Rattle.search.specs.Hops.{arcs_listed, Put, Listed, hops_in}
use Rattle.metric.proofs.Laws.Select.{select_map}

-- ---- arcs by their numbers

side_there : (k : ℕ) (there back : List ℕ) → side_of (2 * k) there back ≡ get_or there k 0
side_there k there back =
    let e : 2 * k / 2 ≡ k = omega arith in
    sym (reads_there (2 * k) there back refl refl (omega arith)) ∙ ap (λ (i : ℕ). get_or there i 0) e

side_back : (k : ℕ) (there back : List ℕ) → side_of (2 * k + 1) there back ≡ get_or back k 0
side_back k there back =
    let e : (2 * k + 1) / 2 ≡ k = omega arith in
    sym (reads_back (2 * k + 1) there back refl refl (λ h. absurd (omega arith))) ∙ ap (λ (i : ℕ). get_or back i 0) e

module _ (from to out back : List ℕ) where
  abbrev arc_by : ℕ → Arc
  arc_by a = arc (side_of a from to) (side_of a to from) (side_of a out back) (a / 2)

  -- the arcs of k links are those with the numbers below 2k
  arcs_by : (k : ℕ) → arcs_in from to out back k ≡ map arc_by (below (2 * k))
  arcs_by zero = unfold arcs_in links_in arcs_from below count_up in refl
  arcs_by (suc k) =
      let e : 2 * suc k ≡ 2 * k + 1 + 1 = omega arith in
      let h : 2 * k / 2 ≡ k = omega arith in
      let o : (2 * k + 1) / 2 ≡ k = omega arith in
      let two : (arc (get_or from k 0) (get_or to k 0) (get_or out k 0) k ∷ arc (get_or to k 0) (get_or from k 0) (get_or back k 0) k ∷ []) ≡ (arc_by (2 * k) ∷ arc_by (2 * k + 1) ∷ []) =
      rw (side_there k from to, side_there k to from, side_there k out back, side_back k from to, side_back k to from, side_back k out back, h, o) in
      ap (arcs_in from to out back) (sym (add-one k)) ∙ arcs_in_more from to out back k ∙ ap₂ (λ (l m : List Arc). l ++ m) (arcs_by k) two
      ∙ sym (append_assoc (map arc_by (below (2 * k))) (arc_by (2 * k) ∷ []) (arc_by (2 * k + 1) ∷ []))
      ∙ ap (λ (l : List Arc). l ++ (arc_by (2 * k + 1) ∷ [])) (sym (map_below_more arc_by (2 * k)))
      ∙ sym (map_below_more arc_by (2 * k + 1)) ∙ ap (λ (m : ℕ). map arc_by (below m)) (sym e)

-- ---- first hops

-- the first hops found among the arcs before a, in a column of 256 cells
pub record FirstsFound (q : Protected) (from to out back : List ℕ) (a count : ℕ) (arcs : List ℕ) : Type 0 where
  pub few : count ≤ a
  pub long : length arcs ≡ 256
  pub all : arcs_listed count arcs ≡ select (leaves_near q from to out back) (below a)

pub firsts_none : (q : Protected) (from to out back arcs : List ℕ) → length arcs ≡ 256 → FirstsFound q from to out back 0 0 arcs
unfolding arcs_listed below count_up select
firsts_none q from to out back arcs l = record { few = omega arith; long = l; all = refl }

-- an arc is put after those listed, or left out
pub first_put : (a count : ℕ) (arcs : List ℕ) → count < length arcs → Put true a count arcs (count + 1) (set arcs count a)
unfolding arcs_listed
first_put a count arcs h = record {
  few = omega arith;
  long = length-set arcs count a;
  listed =
      map_below_more (λ i. get_or (set arcs count a) i 0) count
      ∙ ap₂ (λ (l : List ℕ) (x : ℕ). l ++ (x ∷ []))
      (map_below_same _ _ count (λ i k. get_or-set_other arcs count i a 0 (λ e. absurd (omega arith))))
      (get_or-set_same arcs count a 0 h);
}

pub other_left : (a count : ℕ) (arcs : List ℕ) → Put false a count arcs count arcs
other_left a count arcs = record { few = omega arith; long = refl; listed = sym (append-nil (arcs_listed count arcs)) }

module _ (q : Protected) (from to out back : List ℕ) where
  abbrev test : ℕ → Bool
  test = leaves_near q from to out back

  -- one arc more has been tried
  pub arc_tried : {count all : ℕ} {arcs after : List ℕ} (a : ℕ) → FirstsFound q from to out back a count arcs → Put (test a) a count arcs all after → FirstsFound q from to out back (a + 1) all after
  unfolding select
  arc_tried a f p = record {
    few = omega (arith, f.few, p.few);
    long = p.long ∙ f.long;
    all = p.listed ∙ ap (λ (l : List ℕ). l ++ keep_if (test a) a []) f.all ∙ sym (ap (select test) (below_more a) ∙ select_append test (below a) (a ∷ []));
  }

  -- No arc of a link that does not touch S leaves S, so that both may be passed over.
  pub link_passed : {count : ℕ} {arcs : List ℕ} (k : ℕ) → (eqb (get_or from k 0) q.near || eqb (get_or to k 0) q.near) ≡ false → FirstsFound q from to out back (2 * k) count arcs → FirstsFound q from to out back (2 * k + 1 + 1) count arcs
  unfolding leaves_near
  link_passed {count} {arcs} k e f =
      let there : test (2 * k) ≡ false = rw (side_there k from to, or_false_left (eqb (get_or from k 0) q.near) (eqb (get_or to k 0) q.near) e) in
      let again : test (2 * k + 1) ≡ false = rw (side_back k from to, or_false_right (eqb (get_or from k 0) q.near) (eqb (get_or to k 0) q.near) e) in
      let left : Put (test (2 * k)) (2 * k) count arcs count arcs = rw there (other_left (2 * k) count arcs) in
      let left-too : Put (test (2 * k + 1)) (2 * k + 1) count arcs count arcs = rw again (other_left (2 * k + 1) count arcs) in
      arc_tried (2 * k + 1) (arc_tried (2 * k) f left) left-too

-- the column holds the first hops of the network
pub listed_hops : (q : Protected) (from to out back : List ℕ) (links count : ℕ) (arcs : List ℕ) → Listed q from to out back links count arcs → hops_in from to out back count arcs ≡ first_hops q (arcs_in from to out back links)
unfolding hops_in arcs_listed first_hops hop_over is_first leaves_near
listed_hops q from to out back links count arcs l =
    sym (map-map (hop_by from to out back) (λ i. get_or arcs i 0) (below count))
    ∙ ap (map (hop_by from to out back)) l.all
    ∙ sym (ap (λ (h : List Arc). map hop_over (select (is_first q) h)) (arcs_by from to out back links)
    ∙ ap (map hop_over) (select_map (is_first q) (arc_by from to out back) (below (2 * links)))
    ∙ map-map hop_over (arc_by from to out back) (select (leaves_near q from to out back) (below (2 * links))))

-- one first hop more of a column
pub hops_more : (from to out back : List ℕ) (i : ℕ) (arcs : List ℕ) → hops_in from to out back (i + 1) arcs ≡ hops_in from to out back i arcs ++ (hop_by from to out back (get_or arcs i 0) ∷ [])
unfolding hops_in
hops_more from to out back i arcs = map_below_more (λ i. hop_by from to out back (get_or arcs i 0)) i
