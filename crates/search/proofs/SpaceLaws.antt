-- Laws of the spaces by numbers: one first hop more, and the test whether a question is searched for.
-- Assumes nothing.
use Prim.Native.Nat.{ℕ, ◌+◌, ◌≤◌, ◌<◌}
use mathlib.Core.Path.{◌≡◌, refl, sym, ap, ap₂, ◌∙◌}
use mathlib.Core.Bool.{true}
use mathlib.Core.List.{List, [], ◌∷◌, ◌++◌}
use native.Mathlib.Omega.{arith}
use native.Mathlib.Decide.{ℕ_discrete}
use lib.Bits.{bit_or}
use lib.ListN.{length, get_or, set}
use lib.Seq.{get_or-set_same, get_or-set_other}
use borrow.Author.Tests.{ltb-true, leb-true}
use Rattle.lfa.specs.Lists.{count_up, below}
use Rattle.lfa.specs.Space.{Protected, FirstHop}
use Rattle.lfa.proofs.Laws.Test.{and_left, and_right}
use Rattle.metric.specs.Fit.{cells_fit}
use Rattle.avoid.specs.Calls.{readable}
use Rattle.search.specs.Calls.{searchable}
use Rattle.arcs.specs.Arcs.{side_of, hop_by}
use Rattle.search.specs.Hops.{hops_in}
use Rattle.search.specs.Spaces.{avoided_from, gathered, SetsOf, Reached}
use Rattle.search.proofs.HopLaws.{hops_more}

-- ---- extended P

module _ (n : ℕ) (q : Protected) (area : List ℕ) where
  gathered_append : (set : ℕ) (l m : List FirstHop) → gathered n q area set (l ++ m) ≡ gathered n q area (gathered n q area set l) m
  unfolding gathered
  gathered_append set [] m = refl
  gathered_append set (f ∷ l) m = gathered_append (bit_or set (avoided_from n q area f.router)) l m

  module _ (from to arcs : List ℕ) where
    pub none_reached : (sets : List ℕ) → Reached n q area from to 0 arcs sets 0
    unfolding gathered hops_in below count_up
    none_reached sets = record { each = λ i h. absurd (omega arith); all = λ out back. refl }

    module _ {more m : ℕ} (i : ℕ) (leads : m ≡ side_of (get_or arcs i 0) to from) (own : more ≡ avoided_from n q area m) where
      -- the set of one first hop more is stored
      set_more : (sets : List ℕ) → i < length sets → SetsOf n q area from to i arcs sets → SetsOf n q area from to (i + 1) arcs (set sets i more)
      set_more sets h before j k = go (ℕ_discrete j i)
        where
          go : Dec (j ≡ i) → get_or (set sets i more) j 0 ≡ avoided_from n q area (side_of (get_or arcs j 0) to from)
          go (yes e) = rw e (get_or-set_same sets i more 0 h ∙ own ∙ ap (avoided_from n q area) leads)
          go (no e) = get_or-set_other sets i j more 0 e ∙ before j (omega arith)

      -- the routers that one first hop more avoids to
      hop_more : {union : ℕ} (out back : List ℕ) → union ≡ gathered n q area 0 (hops_in from to out back i arcs) → bit_or union more ≡ gathered n q area 0 (hops_in from to out back (i + 1) arcs)
      unfolding gathered
      hop_more out back e =
          ap₂ bit_or e (own ∙ ap (avoided_from n q area) leads)
          ∙ sym (ap (gathered n q area 0) (hops_more from to out back i arcs) ∙ gathered_append 0 (hops_in from to out back i arcs) (hop_by from to out back (get_or arcs i 0) ∷ []))

      pub hop_reached : {union : ℕ} (sets : List ℕ) → i < length sets → Reached n q area from to i arcs sets union → Reached n q area from to (i + 1) arcs (set sets i more) (bit_or union more)
      hop_reached sets h r = record { each = set_more sets h r.each; all = λ out back. hop_more out back (r.all out back) }

-- ---- the test whether a question is searched for

pub can_search : (n links : ℕ) (q : Protected) (cells : ℕ) → searchable n links q cells ≡ true → (n ≤ 64) × (q.near < 64) × (q.far < 64) × (links ≤ 128)
unfolding searchable readable cells_fit
can_search n links q cells e =
    let few : n ≤ 64 = search (leb-true, and_left, and_right) in
    let near : q.near < n = search (ltb-true, and_left, and_right) in
    let far : q.far < n = search (ltb-true, and_right) in
    (few, omega arith, omega arith, search (leb-true, and_left))
