-- The first of the pairs that are tried one after the other is the one that document 01 chooses from their list.
-- Assumes nothing.
use Rattle.std.specs.Prelude.{ℕ, ◌+◌, ◌≡◌, Bool}
use Rattle.std.proofs.Math.Path.{refl, sym, ap}
use Rattle.std.proofs.Common.{◌∙◌, true≢false}
use Rattle.std.proofs.Math.Bool.{true, false}
use Rattle.std.proofs.Math.Option.{Option, none, some}
use mathlib.Core.List.{List, [], ◌∷◌, map}
use Rattle.lfa.specs.Network.{Arc, Target}
use Rattle.lfa.specs.Space.{Protected}
use Rattle.lfa.specs.Ranks.{rank_of}
use Rattle.lfa.specs.Repair.{Pair, class_of, told_of, key, pair_key, no_later, earlier, choose, outcome_of}
use Rattle.lfa.proofs.Laws.Order.{later_gives, later_make, later_trans, later_total}
use Rattle.order.specs.declared.Ordered.{Ordered}
use Rattle.order.specs.Order.{keys_in, earlier_of}
use Rattle.search.specs.Choice.{outcome_for, first_of}

-- the earlier of a pair and what is found among those after it
front : Ordered → Option Ordered → Option Ordered
front k none = some k
front k (some r) = elim (no_later (keys_in k) (keys_in r)) [ true ↦ some k | false ↦ some r ]

first_from : List Ordered → Option Ordered
first_from [] = none
first_from (k ∷ ks) = front k (first_from ks)

front_stays : (k r : Ordered) → no_later (keys_in k) (keys_in r) ≡ true → front k (some r) ≡ some k
unfolding front
front_stays k r e = rw (e, front)

front_yields : (k r : Ordered) → no_later (keys_in k) (keys_in r) ≡ false → front k (some r) ≡ some r
unfolding front
front_yields k r e = rw (e, front)

-- A pair found before, then one more, then the rest: whether the one more is tried against the former or against the rest first is the
-- same.
front_front : (b k : Ordered) (o : Option Ordered) (t : Bool) → no_later (keys_in b) (keys_in k) ≡ t → elim t as (λ _. Option Ordered) [ true ↦ front b o | false ↦ front k o ] ≡ front b (front k o)
front_front b k none true e = unfold front in sym (front_stays b k e)
front_front b k none false e = unfold front in sym (front_yields b k e)
front_front b k (some r) true e = go (no_later (keys_in k) (keys_in r)) refl
  where
    go : (t : Bool) → no_later (keys_in k) (keys_in r) ≡ t → front b (some r) ≡ front b (front k (some r))
    go true f = front_stays b r (later_make (later_trans (later_gives (keys_in b) (keys_in k) e) (later_gives (keys_in k) (keys_in r) f))) ∙ sym (ap (front b) (front_stays k r f) ∙ front_stays b k e)
    go false f = ap (front b) (sym (front_yields k r f))
front_front b k (some r) false e = go (no_later (keys_in k) (keys_in r)) refl
  where
    out : no_later (keys_in k) (keys_in r) ≡ false → (u : Bool) → no_later (keys_in b) (keys_in r) ≡ u → some r ≡ front b (some r)
    out f true g = absurd (true≢false (sym (later_make (later_trans (later_gives (keys_in b) (keys_in r) g) (later_total (keys_in k) (keys_in r) f))) ∙ e))
    out f false g = sym (front_yields b r g)

    go : (t : Bool) → no_later (keys_in k) (keys_in r) ≡ t → front k (some r) ≡ front b (front k (some r))
    go true f = front_stays k r f ∙ sym (ap (front b) (front_stays k r f) ∙ front_yields b k e)
    go false f = front_yields k r f ∙ out f (no_later (keys_in b) (keys_in r)) refl ∙ ap (front b) (sym (front_yields k r f))

-- trying pairs one after the other finds what is chosen from the last on
first_front : (b : Ordered) (l : List Ordered) → first_of (some b) l ≡ front b (first_from l)
unfolding first_of earlier_of first_from front
first_front b [] = refl
first_front b (k ∷ l) = go (no_later (keys_in b) (keys_in k)) refl (first_front b l) (first_front k l)
  where
    go : (t : Bool) → no_later (keys_in b) (keys_in k) ≡ t → first_of (some b) l ≡ front b (first_from l) → first_of (some k) l ≡ front k (first_from l) →
        first_of (elim t as (λ _. Option Ordered) [ true ↦ some b | false ↦ some k ]) l ≡ front b (front k (first_from l))
    go true e p q = p ∙ front_front b k (first_from l) true e
    go false e p q = q ∙ front_front b k (first_from l) false e

first_from_lem : (l : List Ordered) → first_of none l ≡ first_from l
unfolding first_of earlier_of first_from
first_from_lem [] = refl
first_from_lem (k ∷ l) = first_front k l

-- Some pairs tried after what was found are as the earliest of them, tried alone.
pub first_nothing : (found : Option Ordered) (l : List Ordered) → first_of none l ≡ none → first_of found l ≡ found
unfolding front
first_nothing none l e = e
first_nothing (some b) l e = first_front b l ∙ ap (front b) (sym (first_from_lem l) ∙ e)

pub first_one : (found : Option Ordered) (l : List Ordered) (o : Ordered) → first_of none l ≡ some o → first_of found l ≡ earlier_of found o
unfolding front earlier_of
first_one none l o e = e
first_one (some b) l o e = first_front b l ∙ ap (front b) (sym (first_from_lem l) ∙ e)

module _ (ranks : List ℕ) (n : ℕ) (hops : List Arc) (d : ℕ → ℕ → ℕ) (q : Protected) (target : Target) where
  -- a pair of the definitions, as the code holds it
  unfoldable pub ordered_for : Pair → Ordered
  ordered_for p = record {
    rank = rank_of ranks (class_of n hops d q target p);
    distance = d q.near p.endpoint;
    pair = record { first = p.hop.router; endpoint = p.endpoint; class = class_of n hops d q target p; cost = p.hop.cost + d p.hop.router p.endpoint };
  }

  found : Option Pair → Option Ordered
  found none = none
  found (some p) = some (ordered_for p)

  earlier_found : (p : Pair) (o : Option Pair) → found (earlier (pair_key ranks n hops d q target) p o) ≡ front (ordered_for p) (found o)
  unfolding found earlier front pair_key key told_of ordered_for
  earlier_found p none = refl
  earlier_found p (some r) = go (no_later (keys_in (ordered_for p)) (keys_in (ordered_for r)))
    where
      go : (t : Bool) → found (elim t as (λ _. Option Pair) [ true ↦ some p | false ↦ some r ]) ≡ elim t as (λ _. Option Ordered) [ true ↦ some (ordered_for p) | false ↦ some (ordered_for r) ]
      go true = refl
      go false = refl

  choose_found : (ps : List Pair) → found (choose (pair_key ranks n hops d q target) ps) ≡ first_from (map ordered_for ps)
  unfolding choose first_from found
  choose_found [] = refl
  choose_found (p ∷ ps) = earlier_found p (choose (pair_key ranks n hops d q target) ps) ∙ ap (front (ordered_for p)) (choose_found ps)

  outcome_found : (o : Option Pair) → outcome_for (found o) ≡ outcome_of n hops d q target o
  unfolding outcome_of found ordered_for told_of
  outcome_found none = refl
  outcome_found (some p) = refl

  -- The first of some pairs, tried one after the other, gives the outcome of the pair that is chosen from them: the keys are the same, and
  -- what is told of a pair is part of what is held.
  pub first_chosen : (ps : List Pair) → outcome_for (first_of none (map ordered_for ps)) ≡ outcome_of n hops d q target (choose (pair_key ranks n hops d q target) ps)
  first_chosen ps = ap outcome_for (first_from_lem (map ordered_for ps) ∙ sym (choose_found ps)) ∙ outcome_found (choose (pair_key ranks n hops d q target) ps)
