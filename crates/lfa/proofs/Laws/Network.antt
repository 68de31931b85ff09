-- Where each link joins routers at costs up to 65,535 and the hops over it descend, the arcs are sound, the distances are least path
-- costs, and the arcs over a link are its two directions. A network within the limits is such a network.
-- Assumes nothing.
use Rattle.std.specs.Prelude.{ℕ, zero, suc, ◌+◌, ◌*◌, ◌≤◌, ◌<◌, ◌≡◌, ◌⊎◌, length}
use Rattle.std.proofs.Math.Path.{refl, subst}
use Rattle.std.proofs.Common.{ap, ◌∙◌, sym, inl, inr, arith, zero-add, add-zero, le_of_suc-le-suc, not-suc-le-zero}
use Rattle.std.proofs.Math.Logic.{⊎_swap}
use mathlib.Core.List.Memᴰ
use mathlib.Core.List.{List, [], ◌∷◌, Memᴰ}
use Rattle.std.proofs.Math.ListN.{get_or}
use Rattle.lfa.specs.Network.{Link, link, arc, Network, arcs_from, arcs}
use Rattle.lfa.specs.FileOf.{WithinLimits}
use Rattle.lfa.specs.Distance.{LeastCosts, distances, distance_in}
use Rattle.lfa.specs.Space.{protected_by, protected}
use Rattle.lfa.specs.Sound.{Descends, level, Sound, Named}
use Rattle.lfa.proofs.Laws.Distance.{distances_least}

-- an arc is one direction of a link
abbrev pub Direction : Link → ℕ → ℕ → ℕ → Type 0
Direction (link a b ab ba) u v c = ((u ≡ a) × (v ≡ b) × (c ≡ ab)) ⊎ ((u ≡ b) × (v ≡ a) × (c ≡ ba))

-- an arc over link k is a direction of the link number k
pub arcs_give : (i : ℕ) (links : List Link) {u v c k : ℕ} → Memᴰ (arc u v c k) (arcs_from i links) →
    (j : ℕ) × (k ≡ i + j) × (j < length links) × Memᴰ (get_or links j (link 0 0 0 0)) links × Direction (get_or links j (link 0 0 0 0)) u v c
unfolding arcs_from
arcs_give i [] m = absurd (Memᴰ.not-nil m)
arcs_give i (link a b ab ba ∷ links) {u} {v} {c} {k} m = go (arcs_give (suc i) links) (Memᴰ.cases_cons m)
  where
    Found : ℕ → List Link → Type 0
    Found i links = (j : ℕ) × (k ≡ i + j) × (j < length links) × Memᴰ (get_or links j (link 0 0 0 0)) links × Direction (get_or links j (link 0 0 0 0)) u v c

    next : (Memᴰ (arc u v c k) (arcs_from (suc i) links) → Found (suc i) links) → (arc u v c k ≡ arc b a ba i) ⊎ Memᴰ (arc u v c k) (arcs_from (suc i) links) → Found i (link a b ab ba ∷ links)
    next below (inl e) = let e₁ : k ≡ i = cc in (0, omega arith, omega arith, Memᴰ.head refl, inr ((cc), (cc), (cc)))
    next below (inr m) = let r = below m in (suc r.0, omega (arith, r.1), omega (arith, r.2), Memᴰ.tail r.3, r.4)

    go : (Memᴰ (arc u v c k) (arcs_from (suc i) links) → Found (suc i) links) → (arc u v c k ≡ arc a b ab i) ⊎ Memᴰ (arc u v c k) (arc b a ba i ∷ arcs_from (suc i) links) → Found i (link a b ab ba ∷ links)
    go below (inl e) = let e₁ : k ≡ i = cc in (0, omega arith, omega arith, Memᴰ.head refl, inl ((cc), (cc), (cc)))
    go below (inr m) = next below (Memᴰ.cases_cons m)

-- both directions of link number j are arcs over it
pub arcs_have : (i : ℕ) (links : List Link) (j a b ab ba : ℕ) → j < length links → get_or links j (link 0 0 0 0) ≡ link a b ab ba →
    Memᴰ (arc a b ab (i + j)) (arcs_from i links) × Memᴰ (arc b a ba (i + j)) (arcs_from i links)
unfolding arcs_from
arcs_have i [] j a b ab ba h e = absurd (not-suc-le-zero h)
arcs_have i (link a' b' ab' ba' ∷ links) zero a b ab ba h e =
    let z : i + 0 ≡ i = add-zero i in
    (Memᴰ.head {x = arc a' b' ab' i} (cc), Memᴰ.tail (Memᴰ.head {x = arc b' a' ba' i} (cc)))
arcs_have i (link a' b' ab' ba' ∷ links) (suc j) a b ab ba h e =
    let r = arcs_have (suc i) links j a b ab ba (le_of_suc-le-suc h) e in
    let s : i + suc j ≡ suc i + j = omega arith in
    (Memᴰ.tail (Memᴰ.tail (Memᴰ.cast (ap (arc a b ab) s) r.0)), Memᴰ.tail (Memᴰ.tail (Memᴰ.cast (ap (arc b a ba) s) r.1)))

-- a protected link keeps its number
pub protected_number : (m : ℕ) (net : Network) (l e : ℕ) → (protected m net l e).number ≡ l
unfolding protected protected_by
protected_number m net l e = go e (get_or net.links l (link 0 0 0 0))
  where
    go : (e : ℕ) (k : Link) → (protected_by m l e k).number ≡ l
    go zero (link a b ab ba) = refl
    go (suc e) (link a b ab ba) = refl

-- a link between routers, at costs up to 65,535, and neither hop over it climbs as much as twice its cost
pub record LinkSound (n : ℕ) (height : ℕ → ℕ) (a b ab ba : ℕ) : Type 0 where
  pub a_in : a < n
  pub b_in : b < n
  pub out_falls : height b < 2 * ab + height a
  pub back_falls : height a < 2 * ba + height b
  pub out_most : ab ≤ 65535
  pub back_most : ba ≤ 65535

-- at most 64 routers, and such links between them
pub record LinksSound (net : Network) (height : ℕ → ℕ) : Type 0 where
  pub few_routers : net.routers ≤ 64
  pub link_sound : {a b ab ba : ℕ} → Memᴰ (link a b ab ba) net.links → LinkSound net.routers height a b ab ba

-- within the limits every cost is 1 or more, and all routers are at one height
pub limits_links : {net : Network} → WithinLimits net → LinksSound net level
limits_links limits = record {
  few_routers = limits.few_routers;
  link_sound = λ m. let w = limits.link_within m in
      record { a_in = w.a_in; b_in = w.b_in; out_falls = omega (arith, w.out_some); back_falls = omega (arith, w.back_some); out_most = w.out_most; back_most = w.back_most };
}

module _ (net : Network) {height : ℕ → ℕ} (sound : LinksSound net height) where
  -- what is known of an arc
  sound_arc : {u v c k : ℕ} → Memᴰ (arc u v c k) (arcs net) → (u < net.routers) × (v < net.routers) × (height v < 2 * c + height u) × (c ≤ 65535)
  unfolding arcs
  sound_arc {u} {v} {c} {k} m = let r = arcs_give 0 net.links m in go (get_or net.links r.0 (link 0 0 0 0)) r.3 r.4
    where
      go : (lk : Link) → Memᴰ lk net.links → Direction lk u v c → (u < net.routers) × (v < net.routers) × (height v < 2 * c + height u) × (c ≤ 65535)
      go (link a b ab ba) j (inl (p, q, r)) = let s = sound.link_sound j in rw (p, q, r) (s.a_in, s.b_in, s.out_falls, s.out_most)
      go (link a b ab ba) j (inr (p, q, r)) = let s = sound.link_sound j in rw (p, q, r) (s.b_in, s.a_in, s.back_falls, s.back_most)

  pub limits_descend : Descends (arcs net) height
  limits_descend = record { hop = λ m. (sound_arc m).2 }

  pub limits_sound : Sound net.routers (arcs net)
  limits_sound = record {
    few = sound.few_routers;
    within = record { from = λ m. (sound_arc m).0; to = λ m. (sound_arc m).1 };
    height = height;
    descends = limits_descend;
    capped = λ m. (sound_arc m).3;
  }

  -- the table that the planner fills holds the least costs of paths
  pub limits_distances : LeastCosts (arcs net) (distance_in (distances net))
  unfolding distances
  limits_distances = distances_least net.routers (arcs net) limits_sound.within

  -- a link below L, seen from either end
  pub limits_named : (m l e : ℕ) → l < length net.links → Named (arcs net) (protected m net l e)
  unfolding arcs protected protected_by
  limits_named m l e h = go e (get_or net.links l (link 0 0 0 0)) refl
    where
      only : (lk : Link) → get_or net.links l (link 0 0 0 0) ≡ lk → (u v c : ℕ) → Memᴰ (arc u v c l) (arcs_from 0 net.links) → Direction lk u v c
      only lk p u v c m =
          let r = arcs_give 0 net.links m in
          let j : r.0 ≡ l = omega (arith, r.1) in
          subst (λ k. Direction k u v c) (ap (λ i. get_or net.links i (link 0 0 0 0)) j ∙ p) r.4

      go : (e : ℕ) (lk : Link) → get_or net.links l (link 0 0 0 0) ≡ lk → Named (arcs_from 0 net.links) (protected_by m l e lk)
      go zero (link a b ab ba) p =
          let r = arcs_have 0 net.links l a b ab ba h p in
          record { outward = rw zero-add at r.0; backward = rw zero-add at r.1; only = λ {u} {v} {c} m. only (link a b ab ba) p u v c m }
      go (suc e) (link a b ab ba) p =
          let r = arcs_have 0 net.links l a b ab ba h p in
          record { outward = rw zero-add at r.1; backward = rw zero-add at r.0; only = λ {u} {v} {c} m. ⊎_swap (only (link a b ab ba) p u v c m) }

-- a hop leads to another router
pub limits_two : (net : Network) → WithinLimits net → {x z c l : ℕ} → Memᴰ (arc x z c l) (arcs net) → x ≡ z → ⊥
unfolding arcs
limits_two net limits {x} {z} {c} m = let r = arcs_give 0 net.links m in go (get_or net.links r.0 (link 0 0 0 0)) r.3 r.4
  where
    go : (lk : Link) → Memᴰ lk net.links → Direction lk x z c → x ≡ z → ⊥
    go (link a b ab ba) j (inl (p, q, r)) e = (limits.link_within j).two (sym p ∙ e ∙ q)
    go (link a b ab ba) j (inr (p, q, r)) e = (limits.link_within j).two (sym q ∙ sym e ∙ p)
