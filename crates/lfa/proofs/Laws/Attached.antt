-- Attached routers: the test decides, D(x,p) is at most the own cost of an attached router, a router as a target has itself alone
-- attached, and a walk from an attached router stays there.
-- Assumes nothing.
use Rattle.std.specs.Prelude.{ℕ, ◌≤◌, ◌<◌, ◌≡◌, refl, ◌⊎◌, true, false}
use Rattle.std.proofs.Common.{sym, ap, inl, inr, arith, eqb-true, eq-eqb}
use mathlib.Core.List.Memᴰ
use mathlib.Core.List.{List, Memᴰ}
use Rattle.lfa.specs.Network.{Arc, Attachment, at, Target, router, Attached, attachment_of, is_attached}
use Rattle.lfa.specs.Distance.{unreachable, stay, LeastCosts, towards}
use Rattle.lfa.specs.Walk.{Walk, here, hop, Avoids}
use Rattle.lfa.proofs.Laws.Test.{fails_make, fails_gives, decide}
use Rattle.lfa.proofs.Laws.List.{any_gives, any_make}
use Rattle.lfa.proofs.Laws.Target.{towards_least, towards_router}

-- ---- the test

pub attached_gives : (to : Target) (x : ℕ) → is_attached to x ≡ true → Attached to x
unfolding is_attached attachment_of
attached_gives to x e = let r = any_gives (attachment_of x) to e in by r.0 r.1 r.2
  where
    by : (a : Attachment) → Memᴰ a to → attachment_of x a ≡ true → Attached to x
    by (at a c) m t = record { own = c; listed = Memᴰ.cast (ap (λ k. at k c) (sym (eqb-true a x t))) m }

pub attached_make : {to : Target} {x : ℕ} → Attached to x → is_attached to x ≡ true
unfolding is_attached attachment_of
attached_make {to} {x} a = any_make (attachment_of x) a.listed (eq-eqb x x refl)

pub unattached_gives : (to : Target) (x : ℕ) → is_attached to x ≡ false → Attached to x → ⊥
unattached_gives to x e a = fails_gives (is_attached to x) e (attached_make a)

pub unattached_make : (to : Target) (x : ℕ) → (Attached to x → ⊥) → is_attached to x ≡ false
unattached_make to x h = fails_make (is_attached to x) (λ e. h (attached_gives to x e))

-- a router is attached or not
pub attached_cases : (to : Target) (x : ℕ) → Attached to x ⊎ (Attached to x → ⊥)
attached_cases to x = by (decide (is_attached to x))
  where
    by : (is_attached to x ≡ true) ⊎ (is_attached to x ≡ false) → Attached to x ⊎ (Attached to x → ⊥)
    by (inl e) = inl (attached_gives to x e)
    by (inr e) = inr (unattached_gives to x e)

-- ---- routers as targets

pub router_attached : (t : ℕ) → Attached (router t) t
unfolding router
router_attached t = record { own = 0; listed = Memᴰ.head refl }

pub router_only : {t x : ℕ} → Attached (router t) x → x ≡ t
unfolding router
router_only {t} {x} a = let e : at x a.own ≡ at t 0 = Memᴰ.eq_of_singleton a.listed in cc

-- ---- distances

module _ (hops : List Arc) (d : ℕ → ℕ → ℕ) (dist : LeastCosts hops d) where
  -- D(x,p) is no more than an attached router's own cost
  pub attached_near : {to : Target} {x : ℕ} (a : Attached to x) → towards d to x ≤ a.own
  attached_near {to} {x} a = let z : d x x ≤ 0 = dist.least stay in omega (arith, towards_least d x a.listed)

  -- D(t,t) is 0
  pub router_self : (t : ℕ) → towards d (router t) t ≡ 0
  router_self t = let z : d t t ≤ 0 = dist.least stay in omega (arith, towards_router d t t (dist.most t t))

-- ---- walks

-- a walk from an attached router stays there, so that it crosses nothing
attached_stays : {hops : List Arc} {d : ℕ → ℕ → ℕ} {to : Target} {x u k : ℕ} → Attached to x → Walk hops d to x u k → u ≡ x
attached_stays a here = refl
attached_stays a (hop s w) = absurd (s.unattached a)

pub attached_avoids : {hops : List Arc} {d : ℕ → ℕ → ℕ} {to : Target} {x : ℕ} (l : ℕ) → Attached to x → towards d to x < unreachable → Avoids hops d to l x
attached_avoids l a f = record { reachable = f; none = λ u v r. r.step.unattached (rw (attached_stays a r.walk) a) }
