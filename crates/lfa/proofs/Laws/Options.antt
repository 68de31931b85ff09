-- Options at a router: the options listed are the moves that a walk has there, in the order of document 01, and the one that a choice
-- byte takes is one of them.
-- Assumes nothing.
use Rattle.std.specs.Prelude.{ℕ, zero, suc, ◌%◌, ◌<◌, ◌≡◌, ◌⊎◌, Bool, eqb, ltb}
use Rattle.std.proofs.Math.Path.{refl, subst}
use Rattle.std.proofs.Common.{sym, ap, arith, mod-lt}
use Rattle.std.proofs.Math.Logic.{inl, inr}
use Rattle.std.proofs.Math.Bool.{true, false}
use mathlib.Core.List.Memᴰ
use mathlib.Core.List.{List, [], ◌∷◌, map, Memᴰ}
use Rattle.std.proofs.Math.ListN.{length}
use borrow.Author.Tests.{ltb-true, lt-ltb, eqb-true, eq-eqb}
use Rattle.lfa.specs.Lists.{count_up, below, select, keep_if, any_of}
use Rattle.lfa.specs.Network.{Arc, arc, Target}
use Rattle.lfa.specs.Distance.{unreachable, LeastCosts, towards}
use Rattle.lfa.specs.Walk.{Step, Delivers, is_step}
use Rattle.lfa.specs.Route.{HasMove, Ascending, nothing, before, AreOptions, is_step_to, next_routers, delivers, Move, deliver, go, moves_of, options, option_taken}
use Rattle.lfa.proofs.Laws.Test.{and_left, and_right, and_make}
use Rattle.lfa.proofs.Laws.List.{any_gives, any_make, mem_below, from_counted, select_gives, select_make, map_gives, map_make, get_d_in}
use Rattle.lfa.proofs.Laws.Attached.{attached_gives, attached_make}
use Rattle.lfa.proofs.Laws.Walk.{onward}
use Rattle.lfa.specs.Sound.{Within}
use Rattle.lfa.proofs.Laws.Avoid.{step_gives, step_make}

-- ---- moves

pub move_next : {z w : ℕ} → go z ≡ go w → z ≡ w
move_next e = cc

pub never_both : {A : Type 0} {z : ℕ} → deliver ≡ go z → A
never_both e = absurd (let z : ◌≡◌ {A = ℕ} 0 1 = cc in omega arith)

-- ---- next routers and delivery

select_ascending : (p : ℕ → Bool) (i n : ℕ) → Ascending (select p (count_up i n))
unfolding select count_up
select_ascending p i zero = nothing
select_ascending p i (suc n) = by (p i) (select_ascending p (suc i) n)
  where
    by : (b : Bool) → Ascending (select p (count_up (suc i) n)) → Ascending (keep_if b i (select p (count_up (suc i) n)))
    by true rest = before (λ y m. from_counted (suc i) n y (select_gives p (count_up (suc i) n) m).0) rest
    by false rest = rest

some_length : {A : Type 0} {a : A} {l : List A} → Memᴰ a l → 0 < length l
some_length (Memᴰ.head e) = omega arith
some_length (Memᴰ.tail m) = omega arith

no_members : (l : List ℕ) → ((z : ℕ) → Memᴰ z l → ⊥) → l ≡ []
no_members [] h = refl
no_members (z ∷ l) h = absurd (h z (Memᴰ.head refl))

module _ (n : ℕ) (hops : List Arc) (d : ℕ → ℕ → ℕ) (to : Target) where
  -- next routers stand ascending
  pub next_ascending : (x : ℕ) → Ascending (next_routers n hops d to x)
  unfolding next_routers below
  next_ascending x = select_ascending (λ z. any_of (is_step_to d to x z) hops) 0 n

  nexts_give : (x z : ℕ) → Memᴰ z (next_routers n hops d to x) → (l : ℕ) × Step hops d to x z l
  unfolding next_routers is_step_to
  nexts_give x z m =
      let s = select_gives (λ z. any_of (is_step_to d to x z) hops) (below n) m in
      let r = any_gives (is_step_to d to x z) hops s.1 in
      by r.0 r.1 r.2
    where
      by : (a : Arc) → Memᴰ a hops → is_step_to d to x z a ≡ true → (l : ℕ) × Step hops d to x z l
      by (arc u v c l) m e =
          let o : is_step d to x (arc u v c l) ≡ true = and_left (is_step d to x (arc u v c l)) (eqb v z) e in
          let p : v ≡ z = eqb-true v z (and_right (is_step d to x (arc u v c l)) (eqb v z) e) in
          let r = step_gives d to x m o in
          (l, rw (r.0, p) at r.1)

  nexts_make : {x z l : ℕ} → Within hops n → Step hops d to x z l → Memᴰ z (next_routers n hops d to x)
  unfolding next_routers is_step_to
  nexts_make {x} {z} within s =
      select_make (λ z. any_of (is_step_to d to x z) hops) (mem_below n z (within.to s.joined))
      (any_make (is_step_to d to x z) s.joined (and_make _ _ (step_make d to s) (eq-eqb z z refl)))

  delivers_gives : (x : ℕ) → delivers d to x ≡ true → Delivers d to x
  unfolding delivers
  delivers_gives x e = record {
    attached = attached_gives to x (and_right (ltb (towards d to x) unreachable) _ e);
    finite = ltb-true _ _ (and_left (ltb (towards d to x) unreachable) _ e);
  }

  delivers_make : {x : ℕ} → Delivers d to x → delivers d to x ≡ true
  unfolding delivers
  delivers_make t = and_make _ _ (lt-ltb _ _ t.finite) (attached_make t.attached)

  -- ---- the options

  -- The options listed are moves of the walk, and each move of the walk is listed: delivery where x delivers, and the router of every
  -- step among the next routers.
  pub options_give : (x : ℕ) (m : Move) → Memᴰ m (options n hops d to x) → HasMove hops d to x m
  unfolding options moves_of
  options_give x m k = by (delivers d to x) refl k
    where
      step : (z : ℕ) × Memᴰ z (next_routers n hops d to x) × (m ≡ go z) → HasMove hops d to x m
      step r = subst (λ k. HasMove hops d to x k) (sym r.2) (nexts_give x r.0 r.1)

      or : delivers d to x ≡ true → (m ≡ deliver) ⊎ Memᴰ m (map go (next_routers n hops d to x)) → HasMove hops d to x m
      or e (inl p) = subst (λ k. HasMove hops d to x k) (sym p) (delivers_gives x e)
      or e (inr k) = step (map_gives go (next_routers n hops d to x) k)

      by : (b : Bool) → delivers d to x ≡ b → Memᴰ m (moves_of b (next_routers n hops d to x)) → HasMove hops d to x m
      by true e k = or e (Memᴰ.cases_cons k)
      by false e k = step (map_gives go (next_routers n hops d to x) k)

  pub options_make : (x : ℕ) (m : Move) → Within hops n → HasMove hops d to x m → Memᴰ m (options n hops d to x)
  unfolding options moves_of
  options_make x deliver within t = rw (delivers_make t) (Memᴰ.head refl)
  options_make x (go z) within (l, s) = by (delivers d to x) (map_make go (nexts_make within s))
    where
      by : (b : Bool) → Memᴰ (go z) (map go (next_routers n hops d to x)) → Memᴰ (go z) (moves_of b (next_routers n hops d to x))
      by true k = Memᴰ.tail k
      by false k = k

  -- The options are those of document 01: each is a move, every move is one, delivery first and then the next routers ascending.
  pub are_options : Within hops n → (x : ℕ) → AreOptions hops d to x (options n hops d to x)
  unfolding options moves_of
  are_options within x = record {
    each = options_give x;
    every = λ m h. options_make x m within h;
    nexts = next_routers n hops d to x;
    ascending = next_ascending x;
    delivery_first = by (delivers d to x);
  }
    where
      by : (b : Bool) → (moves_of b (next_routers n hops d to x) ≡ deliver ∷ map go (next_routers n hops d to x)) ⊎ (moves_of b (next_routers n hops d to x) ≡ map go (next_routers n hops d to x))
      by true = inl refl
      by false = inr refl

  -- At an attached router delivery is the only option: no step leaves it.
  pub only_delivery : (x : ℕ) → Delivers d to x → options n hops d to x ≡ deliver ∷ []
  unfolding options moves_of
  only_delivery x t =
      rw (delivers_make t) (ap (λ (zs : List ℕ). deliver ∷ map go zs) (no_members (next_routers n hops d to x) (λ z m. (nexts_give x z m).1.unattached t.attached)))

  -- at a finite distance there is an option, since a walk can deliver or step
  options_some : LeastCosts hops d → Within hops n → (x : ℕ) → towards d to x < unreachable → 0 < length (options n hops d to x)
  options_some dist within x f = by (onward hops d to dist x f)
    where
      by : Delivers d to x ⊎ ((z : ℕ) × (l : ℕ) × Step hops d to x z l) → 0 < length (options n hops d to x)
      by (inl t) = some_length (options_make x deliver within t)
      by (inr (z, l, s)) = some_length (options_make x (go z) within (l, s))

  -- The option taken is a move of the walk: its number is below the number of options, so that it is one of those listed.
  pub taken : LeastCosts hops d → Within hops n → (x byte : ℕ) → towards d to x < unreachable → HasMove hops d to x (option_taken (options n hops d to x) byte)
  unfolding option_taken
  taken dist within x byte f =
      options_give x _ (get_d_in (options n hops d to x) (byte % length (options n hops d to x)) deliver (mod-lt byte (options_some dist within x f)))
