-- The class of a pair (Point 5): what is computed is the pair's class, and it has no other. A class below 4 tells that the pair is
-- node-protecting, and modulo 4 a class is that of document 01.
-- Assumes nothing.
use Rattle.std.specs.Prelude.{ℕ, ◌+◌, ◌%◌, ◌≤◌, ◌<◌, ◌≡◌, Bool, not, List, eqb, ltb}
use Rattle.std.proofs.Math.Path.{refl}
use Rattle.std.proofs.Common.{sym, ◌∙◌, arith, add-zero}
use Rattle.std.proofs.Math.Bool.{true, false, true≢false}
use borrow.Author.Tests.{ltb-true, ltb-false, lt-ltb, le-ltb, eqb-true, eqb-false, eq-eqb, ne_eqb}
use Rattle.lfa.specs.Network.{Arc, Target, router}
use Rattle.lfa.specs.Distance.{unreachable, LeastCosts, towards}
use Rattle.lfa.specs.Walk.{visits}
use Rattle.lfa.specs.Space.{Protected}
use Rattle.lfa.specs.Ranks.{classes}
use Rattle.lfa.specs.Repair.{Pair, NodeProtecting, node_protects, HasBaseClass, neighbour_downstream, neighbour_other, tunnel_downstream, tunnel_other, HasClass, node_protecting, any_other, or_else, base_class_of, class_of}
use Rattle.lfa.proofs.Laws.Test.{and_left, and_right, and_make, not_make, not_gives}
use Rattle.lfa.proofs.Laws.Bound.{falls}
use Rattle.lfa.specs.Sound.{Sound}
use Rattle.lfa.proofs.Laws.Visit.{visits_gives, visits_make, arrival_visits}

-- ---- document 01's class

-- the computed class is the pair's class
base_has : (d : ℕ → ℕ → ℕ) (q : Protected) (to : Target) (p : Pair) → HasBaseClass d q to p.hop.router p.endpoint (base_class_of d q to p)
unfolding base_class_of or_else
base_has d q to p = go p.hop.router p.endpoint (eqb p.endpoint p.hop.router) refl (ltb (towards d to p.endpoint) (towards d to q.near)) refl
  where
    go : (n y : ℕ) (a : Bool) → eqb y n ≡ a → (b : Bool) → ltb (towards d to y) (towards d to q.near) ≡ b → HasBaseClass d q to n y (or_else a 2 + or_else b 1)
    go n y true e true f = neighbour_downstream (eqb-true y n e) (ltb-true _ _ f)
    go n y true e false f = neighbour_other (eqb-true y n e) (ltb-false _ _ f)
    go n y false e true f = tunnel_downstream (eqb-false y n e) (ltb-true _ _ f)
    go n y false e false f = tunnel_other (eqb-false y n e) (ltb-false _ _ f)

module _ {d : ℕ → ℕ → ℕ} {q : Protected} {to : Target} where
  -- and it is the only one
  base_is : (p : Pair) {k : ℕ} → HasBaseClass d q to p.hop.router p.endpoint k → k ≡ base_class_of d q to p
  unfolding base_class_of or_else
  base_is p (neighbour_downstream e h) = rw (eq-eqb _ _ e, lt-ltb _ _ h)
  base_is p (neighbour_other e h) = rw (eq-eqb _ _ e, le-ltb _ _ h)
  base_is p (tunnel_downstream e h) = rw (ne_eqb _ _ e, lt-ltb _ _ h)
  base_is p (tunnel_other e h) = rw (ne_eqb _ _ e, le-ltb _ _ h)

  base_once : {n y k j : ℕ} → HasBaseClass d q to n y k → HasBaseClass d q to n y j → k ≡ j
  base_once {n} {y} a b = let p : Pair = record { hop = record { router = n; cost = 0; over = 0 }; endpoint = y } in base_is p a ∙ sym (base_is p b)

  base_few : {n y k : ℕ} → HasBaseClass d q to n y k → k < 4
  base_few (neighbour_downstream e h) = omega arith
  base_few (neighbour_other e h) = omega arith
  base_few (tunnel_downstream e h) = omega arith
  base_few (tunnel_other e h) = omega arith

-- ---- node protection

module _ (n : ℕ) (hops : List Arc) (d : ℕ → ℕ → ℕ) (q : Protected) (to : Target) (p : Pair) where
  -- the test decides node protection
  protects_gives : Sound n hops → p.hop.router < n → p.endpoint < n → node_protects n hops d q to p ≡ true → NodeProtecting hops d q to p.hop.router p.endpoint
  unfolding node_protects
  protects_gives sound first-in end_in e =
      let tunnel = visits n hops d (router p.endpoint) q.far p.hop.router in
      let onward = visits n hops d to q.far p.endpoint in
      record {
        tunnel = λ r. not_gives tunnel (and_left _ (not onward) e) (visits_make n hops d (router p.endpoint) q.far sound.within (falls sound d (router p.endpoint)).1 p.hop.router first-in r);
        onward = λ r. not_gives onward (and_right (not tunnel) _ e) (visits_make n hops d to q.far sound.within (falls sound d to).1 p.endpoint end_in r);
      }

  protects_make : NodeProtecting hops d q to p.hop.router p.endpoint → node_protects n hops d q to p ≡ true
  unfolding node_protects
  protects_make h =
      and_make _ _ (not_make _ (λ e. h.tunnel (visits_gives n hops d (router p.endpoint) q.far p.hop.router e))) (not_make _ (λ e. h.onward (visits_gives n hops d to q.far p.endpoint e)))

  module _ (sound : Sound n hops) (first-in : p.hop.router < n) (end_in : p.endpoint < n) where
    -- the computed class is the pair's class
    pub class_has : HasClass hops d q to p.hop.router p.endpoint (class_of n hops d q to p)
    unfolding class_of or_else
    class_has = go (node_protects n hops d q to p) refl
      where
        go : (b : Bool) → node_protects n hops d q to p ≡ b → HasClass hops d q to p.hop.router p.endpoint (base_class_of d q to p + or_else b 4)
        go true e = rw (add-zero) (node_protecting (protects_gives sound first-in end_in e) (base_has d q to p))
        go false e = any_other (λ h. true≢false (sym (protects_make h) ∙ e)) (base_has d q to p)

-- ---- what a class tells

module _ {hops : List Arc} {d : ℕ → ℕ → ℕ} {q : Protected} {to : Target} {n y : ℕ} where
  -- a pair has one class
  pub class_once : {k j : ℕ} → HasClass hops d q to n y k → HasClass hops d q to n y j → k ≡ j
  class_once (node_protecting p a) (node_protecting r b) = base_once a b
  class_once (node_protecting p a) (any_other r b) = absurd (r p)
  class_once (any_other p a) (node_protecting r b) = absurd (p r)
  class_once (any_other p a) (any_other r b) = omega (arith, base_once a b)

  -- there are eight classes
  pub class_few : {k : ℕ} → HasClass hops d q to n y k → k < classes
  class_few (node_protecting p a) = omega (arith, base_few a)
  class_few (any_other p a) = omega (arith, base_few a)

  -- A class is below 4 exactly when the pair is node-protecting.
  pub class_protects : {k : ℕ} → HasClass hops d q to n y k → k < 4 → NodeProtecting hops d q to n y
  class_protects (node_protecting p a) h = p
  class_protects (any_other p a) h = absurd (omega arith)

  pub protects_class : {k : ℕ} → HasClass hops d q to n y k → NodeProtecting hops d q to n y → k < 4
  protects_class (node_protecting p a) r = base_few a
  protects_class (any_other p a) r = absurd (p r)

  -- modulo 4 it is the class of document 01
  pub class_base : {k : ℕ} → HasClass hops d q to n y k → HasBaseClass d q to n y (k % 4)
  class_base (node_protecting {k} p a) = let e : k % 4 ≡ k = omega (arith, base_few a) in rw e a
  class_base (any_other {k} p a) = let e : (k + 4) % 4 ≡ k = omega (arith, base_few a) in rw e a

-- "A link's own target is E, so its pairs are in 4 to 7": from where E is reached, the walk that arrives visits it.
pub far_class : (n : ℕ) (hops : List Arc) (d : ℕ → ℕ → ℕ) (q : Protected) → Sound n hops → LeastCosts hops d → {m y k : ℕ} → towards d (router q.far) y < unreachable → HasClass hops d q (router q.far) m y k → 4 ≤ k
far_class n hops d q sound dist {y = y} f (node_protecting p a) = absurd (p.onward (arrival_visits n hops d sound dist q.far y f))
far_class n hops d q sound dist f (any_other p a) = omega arith
