-- Laws of the endpoints of one first hop: the one with the least key is that of the earliest pair.
-- Assumes nothing.
use Prim.Native.Nat.{ℕ, ◌+◌, ◌*◌, ◌≤◌, ◌<◌}
use mathlib.Core.Path.{◌≡◌, refl, ap, ◌∙◌}
use mathlib.Core.Bool.{Bool, true, false}
use mathlib.Core.Option.{Option, none, some}
use Rattle.std.specs.Prelude.{Some, None}
use Rattle.std.specs.Prelude as code
use mathlib.Core.List.{List, [], ◌∷◌, ◌++◌, map, map-append, append-nil}
use native.Mathlib.Omega.{arith}
use native.Mathlib.Decide.{ℕ_discrete}
use lib.Dec.{eqb, ltb}
use lib.ListN.{length, get_or, set}
use lib.Seq.{get_or-set_same, get_or-set_other}
use Rattle.lfa.specs.Lists.{count_up, below, keep_if, select}
use Rattle.lfa.specs.Space.{FirstHop, has}
use Rattle.lfa.specs.Ranks.{rank_of}
use Rattle.lfa.specs.Repair.{or_else, no_later}
use Rattle.lfa.proofs.Laws.Test.{fails_make}
use Rattle.lfa.proofs.Laws.Order.{NoLater, less, same, later_gives, later_make}
use Rattle.metric.specs.Area.{cell_in}
use Rattle.metric.proofs.Laws.List.{below_more, select_append}
use Rattle.order.specs.declared.Ordered.{Ordered}
use Rattle.order.specs.Order.{keys_in, earlier_of, class_by}
use Rattle.search.specs.Choice.{first_of, FirstEnd, KeysBelow, KeysOf, KeyOf, ordered_at, may_end, hop_pairs}
use Rattle.search.proofs.ChoiceLaws.{first_append}

-- ---- keys

-- there are eight classes
pub class_small : (hop y end near : ℕ) (protects : Bool) → class_by hop y end near protects < 8
class_small hop y end near protects = go (eqb y hop) (ltb end near) protects
  where
    go : (a b c : Bool) → or_else a 2 + or_else b 1 + or_else c 4 < 8
    go a b c = omega (arith, most a 2, most b 1, most c 4)
      where
        most : (t : Bool) (k : ℕ) → or_else t k ≤ k
        most true k = unfold or_else in omega arith
        most false k = unfold or_else in omega arith

-- the key of one class more
pub key_more : {rank : ℕ} (ranks keys : List ℕ) (k : ℕ) → k < length keys → rank ≡ rank_of ranks k → rank_of ranks k < 256 → KeysBelow k ranks keys → KeysBelow (k + 1) ranks (set keys k (4294967296 * rank))
key_more {rank} ranks keys k h e small before class j = go (ℕ_discrete class k)
  where
    go : Dec (class ≡ k) → (get_or (set keys k (4294967296 * rank)) class 0 ≡ 4294967296 * rank_of ranks class) × (rank_of ranks class < 256)
    go (yes q) = rw q (get_or-set_same keys k (4294967296 * rank) 0 h ∙ ap (λ (r : ℕ). 4294967296 * r) e, small)
    go (no q) = let b = before class (omega arith) in (get_or-set_other keys k class (4294967296 * rank) 0 q ∙ b.0, b.1)

-- the key of a pair among those of one first hop
pub record KeyIs (o : Ordered) (key : ℕ) : Type 0 where
  pub sum : key ≡ 4294967296 * o.rank + o.distance
  pub small : o.rank < 256
  pub short : o.distance < 4294967296

-- Of two pairs with ascending endpoints the first is the earlier one exactly where its key is not the higher one: the rank decides before
-- the distance, which is below 2 to the power 32, and where both are the same the endpoint does.
module _ (a b : Ordered) {k l : ℕ} (ka : KeyIs a k) (kb : KeyIs b l) (h : a.pair.endpoint < b.pair.endpoint) where
  no_later_lem : k ≤ l → NoLater (keys_in a) (keys_in b)
  no_later_lem le = go (ℕ_discrete a.rank b.rank) (ℕ_discrete a.distance b.distance)
    where
      go : Dec (a.rank ≡ b.rank) → Dec (a.distance ≡ b.distance) → NoLater (keys_in a) (keys_in b)
      go (no e) d = let lower : a.rank < b.rank = omega (arith, ka.sum, ka.short, kb.sum, kb.short) in less lower
      go (yes e) (no d) = let nearer : a.distance < b.distance = omega (arith, ka.sum, kb.sum) in same e (less nearer)
      go (yes e) (yes d) = same e (same d (less h))

  later : l < k → NoLater (keys_in a) (keys_in b) → ⊥
  later lt (less r) = omega (arith, ka.sum, ka.short, kb.sum, kb.short)
  later lt (same e (less r)) = omega (arith, ka.sum, kb.sum)
  later lt (same e (same d r)) = omega (arith, ka.sum, kb.sum)

  pub key_stays : k ≤ l → earlier_of (some a) b ≡ some a
  unfolding earlier_of
  key_stays le = rw (earlier_of, later_make (no_later_lem le))

  pub key_yields : l < k → earlier_of (some a) b ≡ some b
  unfolding earlier_of
  key_yields lt = rw (earlier_of, fails_make (no_later (keys_in a) (keys_in b)) (λ t. later lt (later_gives (keys_in a) (keys_in b) t)))

-- ---- the endpoints of one first hop

module _ (ranks : List ℕ) (n : ℕ) (area : List ℕ) (near far : ℕ) (column : List ℕ) (f : FirstHop) (protecting set : ℕ) where
  abbrev at : ℕ → Ordered
  at = ordered_at ranks n area near column f protecting

  abbrev up_to : ℕ → List Ordered
  up_to = hop_pairs ranks n area near far column f protecting set

  one_more : (y : ℕ) (b : Bool) → may_end set near far y ≡ b → up_to (y + 1) ≡ up_to y ++ map at (keep_if b y [])
  unfolding hop_pairs select
  one_more y b t =
      ap (λ (l : List ℕ). map at (select (may_end set near far) l)) (below_more y)
      ∙ ap (map at) (select_append (may_end set near far) (below y) (y ∷ []))
      ∙ map-append at (select (may_end set near far) (below y)) (keep_if (may_end set near far y) y [])
      ∙ ap (λ (c : Bool). up_to y ++ map at (keep_if c y [])) t

  key_is : {key : ℕ} (keys : List ℕ) (y : ℕ) → KeysOf ranks keys → KeyOf keys n area near column f.router protecting y key → KeyIs (at y) key
  unfolding ordered_at
  key_is keys y known k =
      let class = class_by f.router y (get_or column y 0) (get_or column near 0) (has protecting y) in
      let own = known class (class_small f.router y (get_or column y 0) (get_or column near 0) (has protecting y)) in
      record { sum = k.sum ∙ ap (λ (x : ℕ). x + cell_in n area near y) own.0; small = own.1; short = k.short }

  -- what is known of the endpoints before y: the pair of the one found is the first of theirs, and `least` is its key
  pub data EndAt (y : ℕ) : (best : code.Option ℕ) → (least : ℕ) → Type 0 where
    nothing : first_of none (up_to y) ≡ none → EndAt y None 18446744073709551615
    found : {best least : ℕ} → best < y → KeyIs (at best) least → first_of none (up_to y) ≡ some (at best) → EndAt y (Some best) least

  pub none_yet : EndAt 0 None 18446744073709551615
  unfolding first_of hop_pairs below count_up select
  none_yet = nothing refl

  pub end_passed : {best : code.Option ℕ} {least : ℕ} (y : ℕ) → may_end set near far y ≡ false → EndAt y best least → EndAt (y + 1) best least
  end_passed y t (nothing e) = nothing (ap (first_of none) (one_more y false t ∙ append-nil (up_to y)) ∙ e)
  end_passed y t (found b l e) = found (omega arith) l (ap (first_of none) (one_more y false t ∙ append-nil (up_to y)) ∙ e)

  tried : (y : ℕ) → may_end set near far y ≡ true → first_of none (up_to (y + 1)) ≡ earlier_of (first_of none (up_to y)) (at y)
  unfolding first_of
  tried y t = ap (first_of none) (one_more y true t) ∙ first_append none (up_to y) (at y ∷ [])

  -- one endpoint more is tried: it takes the place of the one found where its key is lower
  module _ {key : ℕ} (keys : List ℕ) (y : ℕ) (known : KeysOf ranks keys) (t : may_end set near far y ≡ true) (k : KeyOf keys n area near column f.router protecting y key) where
    pub end_taken : {best : code.Option ℕ} {least : ℕ} → key < least → EndAt y best least → EndAt (y + 1) (Some y) key
    unfolding earlier_of ordered_at
    end_taken h (nothing e) = found (omega arith) (key_is keys y known k) (tried y t ∙ ap (λ (o : Option Ordered). earlier_of o (at y)) e)
    end_taken h (found {best} b l e) =
        let own = key_is keys y known k in
        found (omega arith) own (tried y t ∙ ap (λ (o : Option Ordered). earlier_of o (at y)) e ∙ key_yields (at best) (at y) l own b h)

    pub end_kept : {best : code.Option ℕ} {least : ℕ} → least ≤ key → EndAt y best least → EndAt (y + 1) best least
    unfolding earlier_of ordered_at
    end_kept h (nothing e) = let own = key_is keys y known k in absurd (omega (arith, own.sum, own.small, own.short))
    end_kept h (found {best} b l e) =
        let own = key_is keys y known k in
        found (omega arith) l (tried y t ∙ ap (λ (o : Option Ordered). earlier_of o (at y)) e ∙ key_stays (at best) (at y) l own b h)

  pub end_found : {best : code.Option ℕ} {least : ℕ} → n ≤ 64 → EndAt n best least → FirstEnd at (up_to n) best
  end_found h (nothing e) = e
  end_found h (found b l e) = (omega arith, e)
