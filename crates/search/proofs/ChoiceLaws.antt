-- Laws of the search: the pairs of one first hop more.
-- Assumes nothing.
use Prim.Native.Nat.{ℕ, ◌+◌, ◌/◌, ◌^◌}
use mathlib.Core.Path.{◌≡◌, refl, sym, ap, ap₂, ◌∙◌}
use mathlib.Core.Option.{Option, none}
use mathlib.Core.List.{List, [], ◌∷◌, ◌++◌, map, map-append, append-nil}
use lib.ListN.{get_or}
use lib.Bits.{bit_and, and_mask}
use lib.Dec.{eqb}
use Rattle.lfa.specs.Lists.{count_up, below, flat}
use Rattle.lfa.specs.Space.{Protected, FirstHop, has}
use Rattle.order.specs.declared.Ordered.{Ordered}
use Rattle.order.specs.Order.{earlier_of}
use Rattle.steps.specs.declared.Onward.{Onward}
use Rattle.arcs.specs.Arcs.{side_of, hop_by}
use Rattle.search.specs.Hops.{hops_in}
use Rattle.search.specs.Spaces.{avoided_from}
use Rattle.search.specs.Choice.{first_of, hop_pairs, protecting_from, pairs_over, pairs_tried}
use Rattle.metric.proofs.Laws.Select.{flat_append}
use Rattle.search.proofs.HopLaws.{hops_more}

-- ---- the first of some pairs

pub first_append : (found : Option Ordered) (l m : List Ordered) → first_of found (l ++ m) ≡ first_of (first_of found l) m
unfolding first_of
first_append found [] m = refl
first_append found (o ∷ l) m = first_append (earlier_of found o) l m

-- whether a router is a member, read by a shift and a mask
pub bit_read : (set y : ℕ) → eqb (bit_and (set / 2 ^ y) 1) 1 ≡ has set y
unfolding has
bit_read set y = ap (λ (k : ℕ). eqb k 1) (and_mask (set / 2 ^ y) 1)

-- the pairs of one first hop more of a column
module _ (ranks : List ℕ) (n : ℕ) (q : Protected) (area column : List ℕ) (kept : Onward) (from to out back arcs : List ℕ) where
  abbrev tried : ℕ → List Ordered
  tried i = pairs_tried ranks n q area column kept (hops_in from to out back i arcs)

  pub none_tried : none ≡ first_of none (tried 0)
  unfolding first_of pairs_tried hops_in below count_up flat
  none_tried = refl

  -- the pairs of a first hop, by its two sets
  abbrev pairs_by : FirstHop → (protecting set : ℕ) → List Ordered
  pairs_by f protecting set = hop_pairs ranks n area q.near q.far column f protecting (bit_and kept.avoiding set) n

  pub hop_tried : {before next : Option Ordered} {f : FirstHop} {set protecting : ℕ} (i : ℕ) → before ≡ first_of none (tried i) → f ≡ hop_by from to out back (get_or arcs i 0) →
      set ≡ avoided_from n q area (side_of (get_or arcs i 0) to from) → protecting ≡ protecting_from n q area kept.missing f → next ≡ first_of before (pairs_by f protecting set) → next ≡ first_of none (tried (i + 1))
  unfolding pairs_tried pairs_over flat
  hop_tried {before} {next} {f} {set} {protecting} i e ef es ep s =
      let passed = hops_in from to out back i arcs in
      let g = hop_by from to out back (get_or arcs i 0) in
      let own = pairs_over ranks n q area column kept g in
      let one : pairs_by f protecting set ≡ own = ap₂ (pairs_by f) ep (es ∙ ap (λ (h : FirstHop). avoided_from n q area h.router) (sym ef)) ∙ ap (pairs_over ranks n q area column kept) ef in
      let all : tried (i + 1) ≡ tried i ++ own =
      ap (pairs_tried ranks n q area column kept) (hops_more from to out back i arcs)
      ∙ ap flat (map-append (pairs_over ranks n q area column kept) passed (g ∷ []))
      ∙ flat_append (map (pairs_over ranks n q area column kept) passed) (own ∷ [])
      ∙ ap (λ (l : List Ordered). tried i ++ l) (append-nil own) in
      s ∙ ap₂ first_of e one ∙ sym (ap (first_of none) all ∙ first_append none (tried i) own)
