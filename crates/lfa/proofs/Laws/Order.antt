-- The order of the serving pairs: the list of keys that is compared and the five clauses of document 01 agree, and the pair that
-- is chosen from a list comes first in it.
-- Assumes nothing.
use Rattle.std.specs.Prelude.{ℕ, ◌<◌, ◌≡◌, ◌⊎◌, Bool, ◌&&◌, eqb, ltb}
use Rattle.std.proofs.Math.Path.{refl}
use Rattle.std.proofs.Common.{sym, ap₂, ◌∙◌, inl, inr, true≢false, arith, lt_trans, ltb-true, ltb-false, lt-ltb, eqb-true, eq-eqb}
use Rattle.std.proofs.Math.Bool.{true, false}
use Rattle.std.proofs.lemmas.Bool.{false≢true}
use Rattle.std.proofs.Math.Option.{Option, none, some}
use mathlib.Core.List.Memᴰ
use mathlib.Core.List.{List, [], ◌∷◌, Memᴰ}
use Rattle.lfa.specs.Repair.{First, Pair, Keys, key, by_rank, by_distance, by_endpoint, by_tunnel, by_hop, no_later, earlier, choose}
use Rattle.lfa.proofs.Laws.Test.{and_left, and_right, and_make, or_cases, or_left, or_right, or_false_left, or_false_right, and_false, decide}

-- ---- lists of keys

-- list a comes no later than list b: the first place at which they differ decides
pub data NoLater : List ℕ → List ℕ → Type 0 where
  ended : {b : List ℕ} → NoLater [] b
  less : {x y : ℕ} {a b : List ℕ} → x < y → NoLater (x ∷ a) (y ∷ b)
  same : {x y : ℕ} {a b : List ℕ} → x ≡ y → NoLater a b → NoLater (x ∷ a) (y ∷ b)

pub later_gives : (a b : List ℕ) → no_later a b ≡ true → NoLater a b
unfolding no_later
later_gives [] b e = ended
later_gives (x ∷ a) [] e = absurd (false≢true e)
later_gives (x ∷ a) (y ∷ b) e = go (later_gives a b) (or_cases (ltb x y) (eqb x y && no_later a b) e)
  where
    go : (no_later a b ≡ true → NoLater a b) → (ltb x y ≡ true) ⊎ ((eqb x y && no_later a b) ≡ true) → NoLater (x ∷ a) (y ∷ b)
    go below (inl t) = less (ltb-true x y t)
    go below (inr t) = same (eqb-true x y (and_left (eqb x y) (no_later a b) t)) (below (and_right (eqb x y) (no_later a b) t))

pub later_make : {a b : List ℕ} → NoLater a b → no_later a b ≡ true
unfolding no_later
later_make ended = refl
later_make {a = x ∷ a} {b = y ∷ b} (less h) = or_left (ltb x y) (eqb x y && no_later a b) (lt-ltb x y h)
later_make {a = x ∷ a} {b = y ∷ b} (same e r) = or_right (ltb x y) (eqb x y && no_later a b) (and_make (eqb x y) (no_later a b) (eq-eqb x y e) (later_make r))

pub later_refl : (a : List ℕ) → NoLater a a
later_refl [] = ended
later_refl (x ∷ a) = same refl (later_refl a)

pub later_trans : {a b c : List ℕ} → NoLater a b → NoLater b c → NoLater a c
later_trans ended s = ended
later_trans (less h) (less k) = less (lt_trans h k)
later_trans (less h) (same e s) = less (rw e at h)
later_trans (same e r) (less k) = less (rw (← e) at k)
later_trans (same e r) (same e' s) = same (e ∙ e') (later_trans r s)

-- two lists neither of which is later are the same
pub later_both : {a b : List ℕ} → NoLater a b → NoLater b a → a ≡ b
later_both ended ended = refl
later_both (less h) (less k) = absurd (omega (arith, h, k))
later_both (less h) (same e r) = absurd (omega (arith, h, e))
later_both (same e r) (less k) = absurd (omega (arith, e, k))
later_both (same e r) (same e' s) = ap₂ ◌∷◌ e (later_both r s)

pub later_total : (a b : List ℕ) → no_later a b ≡ false → NoLater b a
unfolding no_later
later_total [] b e = absurd (true≢false e)
later_total (x ∷ a) [] e = ended
later_total (x ∷ a) (y ∷ b) e = go (later_total a b) (decide (ltb y x))
  where
    go : (no_later a b ≡ false → NoLater b a) → (ltb y x ≡ true) ⊎ (ltb y x ≡ false) → NoLater (y ∷ b) (x ∷ a)
    go below (inl t) = less (ltb-true y x t)
    go below (inr t) =
        let f : ltb x y ≡ false = or_false_left (ltb x y) (eqb x y && no_later a b) e in
        let q : y ≡ x = omega (arith, ltb-false) in
        same q (below (and_false (eqb x y) (no_later a b) (or_false_right (ltb x y) (eqb x y && no_later a b) e) (eq-eqb x y (sym q))))

-- ---- the choice

-- what it means to choose o from a list: the pair chosen is in the list and comes noLater each of it; none, if the list is empty
abbrev pub Chosen : (Pair → List ℕ) → List Pair → Option Pair → Type 0
Chosen k ps none = (p : Pair) → Memᴰ p ps → ⊥
Chosen k ps (some r) = Memᴰ r ps × ((p : Pair) → Memᴰ p ps → NoLater (k r) (k p))

module _ (k : Pair → List ℕ) where
  add : (p : Pair) (ps : List Pair) (o : Option Pair) → Chosen k ps o → Chosen k (p ∷ ps) (earlier k p o)
  unfolding earlier
  add p ps none c = (Memᴰ.head refl, λ r m. go r (Memᴰ.cases_cons m))
    where
      go : (r : Pair) → (r ≡ p) ⊎ Memᴰ r ps → NoLater (k p) (k r)
      go r (inl e) = rw e (later_refl (k p))
      go r (inr m) = absurd (c r m)
  add p ps (some q) c = pick (no_later (k p) (k q)) refl
    where
      pick : (b : Bool) → no_later (k p) (k q) ≡ b → Chosen k (p ∷ ps) (elim b as (λ _. Option Pair) [ true ↦ some p | false ↦ some q ])
      pick true e = (Memᴰ.head refl, λ r m. go r (Memᴰ.cases_cons m))
        where
          go : (r : Pair) → (r ≡ p) ⊎ Memᴰ r ps → NoLater (k p) (k r)
          go r (inl e') = rw e' (later_refl (k p))
          go r (inr m) = later_trans (later_gives (k p) (k q) e) (c.1 r m)
      pick false e = (Memᴰ.tail c.0, λ r m. go r (Memᴰ.cases_cons m))
        where
          go : (r : Pair) → (r ≡ p) ⊎ Memᴰ r ps → NoLater (k q) (k r)
          go r (inl e') = rw e' (later_total (k p) (k q) e)
          go r (inr m) = c.1 r m

  pub chosen : (ps : List Pair) → Chosen k ps (choose k ps)
  unfolding choose
  chosen [] = λ p m. Memᴰ.not-nil m
  chosen (p ∷ ps) = add p ps (choose k ps) (chosen ps)

-- ---- the five clauses

-- keys that agree one by one are the same
keys_made : (rank distance endpoint cost first : ℕ) → Keys
keys_made k s y c n = record { rank = k; distance = s; endpoint = y; cost = c; first = n }

same_keys : (a b : Keys) → a.rank ≡ b.rank → a.distance ≡ b.distance → a.endpoint ≡ b.endpoint → a.cost ≡ b.cost → a.first ≡ b.first → a ≡ b
unfolding keys_made
same_keys a b e₁ e₂ e₃ e₄ e₅ =
    let e : keys_made a.rank a.distance a.endpoint a.cost a.first ≡ keys_made b.rank b.distance b.endpoint b.cost b.first = cc in
    e

-- The list of keys comes no later exactly when one of the five clauses holds or all keys are the same: key by key, the first that
-- differs is the clause.
pub key_first : (a b : Keys) → NoLater (key a) (key b) → First a b
unfolding key
key_first a b (less h) = inl (by_rank h)
key_first a b (same e₁ (less h)) = inl (by_distance e₁ h)
key_first a b (same e₁ (same e₂ (less h))) = inl (by_endpoint e₁ e₂ h)
key_first a b (same e₁ (same e₂ (same e₃ (less h)))) = inl (by_tunnel e₁ e₂ e₃ h)
key_first a b (same e₁ (same e₂ (same e₃ (same e₄ (less h))))) = inl (by_hop e₁ e₂ e₃ e₄ h)
key_first a b (same e₁ (same e₂ (same e₃ (same e₄ (same e₅ r))))) = inr (same_keys a b e₁ e₂ e₃ e₄ e₅)

pub first_key : (a b : Keys) → First a b → NoLater (key a) (key b)
unfolding key
first_key a b (inl (by_rank h)) = less h
first_key a b (inl (by_distance e₁ h)) = same e₁ (less h)
first_key a b (inl (by_endpoint e₁ e₂ h)) = same e₁ (same e₂ (less h))
first_key a b (inl (by_tunnel e₁ e₂ e₃ h)) = same e₁ (same e₂ (same e₃ (less h)))
first_key a b (inl (by_hop e₁ e₂ e₃ e₄ h)) = same e₁ (same e₂ (same e₃ (same e₄ (less h))))
first_key a b (inr e) = rw e (later_refl (key b))

-- two keys neither of which comes before the other are the same
pub first_both : (a b : Keys) → First a b → First b a → key a ≡ key b
first_both a b f g = later_both (first_key a b f) (first_key b a g)
