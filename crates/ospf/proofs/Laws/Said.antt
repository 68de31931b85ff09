-- What the computed parts of the network say of the LSAs: the links of a router's LSA, the metrics towards a router, the stub links.
-- Assumes nothing.
use Rattle.std.specs.Prelude.{ℕ, ◌≡◌, refl, ◌⊎◌, Bool, true, false, eqb}
use Rattle.std.proofs.Common.{sym, ap, ◌∙◌, inl, inr}
use mathlib.Core.List.Memᴰ
use mathlib.Core.List.{List, [], ◌∷◌, map, Memᴰ}
use borrow.Author.Tests.{eqb-true, eq-eqb, ne_eqb}
use Rattle.lfa.specs.Lists.{select, keep_if}
use Rattle.lfa.proofs.Laws.Test.{and_left, and_right, and_make}
use Rattle.lfa.proofs.Laws.List.{select_gives, select_make, map_gives, map_make, flat_gives, flat_make}
use Rattle.ospf.specs.Order.{Pairwise, none, first}
use Rattle.ospf.specs.Lsa.{Entry, entry, Lsa, lsa, SoundEntry, point_to_point, stub, Apart}
use Rattle.ospf.specs.Run.{Differ, SoundRun}
use Rattle.ospf.specs.Means.{Name, name, HasEntry, Describes, HasStub, has_stub}
use Rattle.ospf.specs.Network.{router_of, links_in, entries_of, metric_of, name_of, is_towards, is_stub, is_stub_of, towards, stubs_of, stub_names}

-- ---- pairwise

module _ {A : Type 0} {R : A → A → Type 0} where
  pub pairwise_first : {x : A} {l : List A} → Pairwise R (x ∷ l) → (y : A) → Memᴰ y l → R x y
  pairwise_first (first f h) = f

  pub pairwise_rest : {x : A} {l : List A} → Pairwise R (x ∷ l) → Pairwise R l
  pairwise_rest (first f h) = h

-- ---- the links in the LSA of a router

-- The LSA found for router r is its own, since no router has two.
found : (run : List Lsa) (r : ℕ) (es : List Entry) → Pairwise Differ run → Memᴰ (lsa r es) run → entries_of run r ≡ es
unfolding entries_of router_of links_in
found [] r es h m = absurd (Memᴰ.not-nil m)
found (lsa q fs ∷ run) r es h m = go (Memᴰ.cases_cons m) (found run r es (pairwise_rest h))
  where
    go : (lsa r es ≡ lsa q fs) ⊎ Memᴰ (lsa r es) run → (Memᴰ (lsa r es) run → entries_of run r ≡ es) → entries_of (lsa q fs ∷ run) r ≡ es
    go (inl e) rest = let p : q ≡ r = cc in rw (eq-eqb q r p, entries_of) (let s : fs ≡ es = cc in s)
    go (inr k) rest = rw (ne_eqb q r (pairwise_first h (lsa r es) k), entries_of) (rest k)

-- a link that is found is in an LSA of the router
here : (run : List Lsa) (r : ℕ) (e : Entry) → Memᴰ e (entries_of run r) → HasEntry run r e
unfolding entries_of router_of links_in
here [] r e m = absurd (Memᴰ.not-nil m)
here (lsa q fs ∷ run) r e m = go (eqb q r) refl m (here run r e)
  where
    later : HasEntry run r e → HasEntry (lsa q fs ∷ run) r e
    later h = record { entries = h.entries; among = Memᴰ.tail h.among; has = h.has }

    go : (t : Bool) → eqb q r ≡ t → Memᴰ e (elim t as (λ _. List Entry) [ true ↦ fs | false ↦ entries_of run r ]) → (Memᴰ e (entries_of run r) → HasEntry run r e) → HasEntry (lsa q fs ∷ run) r e
    go true t m rest = record { entries = fs; among = Memᴰ.head (ap (λ (z : ℕ). lsa z fs) (sym (eqb-true q r t))); has = m }
    go false t m rest = later (rest m)

entries_apart : (run : List Lsa) (r : ℕ) → ((q : ℕ) (es : List Entry) → Memᴰ (lsa q es) run → Pairwise Apart es) → Pairwise Apart (entries_of run r)
unfolding entries_of router_of links_in
entries_apart [] r h = none
entries_apart (lsa q fs ∷ run) r h = go (eqb q r) (entries_apart run r (λ q' es m. h q' es (Memᴰ.tail m)))
  where
    go : (t : Bool) → Pairwise Apart (entries_of run r) → Pairwise Apart (elim t as (λ _. List Entry) [ true ↦ fs | false ↦ entries_of run r ])
    go true rest = h q fs (Memᴰ.head refl)
    go false rest = rest

-- ---- at most one element

pub data AtMostOne {A : Type 0} : List A → Type 0 where
  no_element : AtMostOne []
  one_element : {x : A} → AtMostOne (x ∷ [])

select_none : {A : Type 0} (p : A → Bool) (l : List A) → ((x : A) → Memᴰ x l → p x ≡ true → ⊥) → select p l ≡ []
unfolding select
select_none p [] h = refl
select_none p (x ∷ l) h = go (p x) refl (select_none p l (λ y m. h y (Memᴰ.tail m)))
  where
    go : (t : Bool) → p x ≡ t → select p l ≡ [] → keep_if t x (select p l) ≡ []
    go true e rest = absurd (h x (Memᴰ.head refl) e)
    go false e rest = rest

-- two links towards y are not apart
towards_clash : (y : ℕ) (e f : Entry) → Apart e f → is_towards y e ≡ true → is_towards y f ≡ true → ⊥
unfolding is_towards
towards_clash y (entry id info kind tos metric) (entry id' info' kind' tos' metric') apart s t =
    let to : id ≡ y = search (eqb-true, and_left, and_right) in
    let to' : id' ≡ y = search (eqb-true, and_left, and_right) in
    apart (search (eqb-true, and_left)) (search (eqb-true, and_left)) (to ∙ sym to')

towards_one : (y : ℕ) (l : List Entry) → Pairwise Apart l → AtMostOne (map metric_of (select (is_towards y) l))
unfolding select
towards_one y [] h = no_element
towards_one y (e ∷ l) h = go (is_towards y e) refl (towards_one y l (pairwise_rest h))
  where
    go : (t : Bool) → is_towards y e ≡ t → AtMostOne (map metric_of (select (is_towards y) l)) → AtMostOne (map metric_of (keep_if t e (select (is_towards y) l)))
    go true s rest = rw (select_none (is_towards y) l (λ f m t. towards_clash y e f (pairwise_first h f m) s t)) one_element
    go false s rest = rest

-- ---- a run of sound LSAs

module _ (run : List Lsa) (sound : SoundRun run) where
  pub has_gives : (r : ℕ) (e : Entry) → HasEntry run r e → Memᴰ e (entries_of run r)
  has_gives r e h = rw (found run r h.entries sound.once h.among) h.has

  pub sound_here : (r : ℕ) (e : Entry) → Memᴰ e (entries_of run r) → SoundEntry r e
  sound_here r e m = let h = here run r e m in sound.entries r h.entries h.among e h.has

  -- ---- point-to-point links

  pub towards_most : (x y : ℕ) → AtMostOne (towards run x y)
  unfolding towards
  towards_most x y = towards_one y (entries_of run x) (entries_apart run x sound.neighbours)

  no_tos : (r id info kind tos metric : ℕ) → SoundEntry r (entry id info kind tos metric) → tos ≡ 0
  no_tos r id info kind tos metric (point_to_point p q) = refl
  no_tos r id info kind tos metric stub = refl

  towards_at : (x y m : ℕ) (e : Entry) → Memᴰ e (entries_of run x) → is_towards y e ≡ true → m ≡ metric_of e → Describes run x y m
  unfolding is_towards metric_of
  towards_at x y m (entry id info kind tos metric) k t e =
      let one : kind ≡ 1 = search (eqb-true, and_left) in
      let to : id ≡ y = search (eqb-true, and_left, and_right) in
      let z : tos ≡ 0 = no_tos x id info kind tos metric (sound_here x (entry id info kind tos metric) k) in
      record { info = info; described = here run x (entry y info 1 0 m) (rw (one, to, z, ← e) at k) }

  pub towards_gives : (x y m : ℕ) → Memᴰ m (towards run x y) → Describes run x y m
  unfolding towards
  towards_gives x y m q =
      let p = map_gives metric_of (select (is_towards y) (entries_of run x)) q in
      let s = select_gives (is_towards y) (entries_of run x) p.1 in
      towards_at x y m p.0 s.0 s.1 p.2

  pub towards_make : (x y m : ℕ) → Describes run x y m → Memᴰ m (towards run x y)
  unfolding towards metric_of is_towards
  towards_make x y m d =
      map_make metric_of (select_make (is_towards y) (has_gives x (entry y d.info 1 0 m) d.described) (eq-eqb y y refl))

  -- ---- stub links

  stub_at : (x m n k : ℕ) (e : Entry) → Memᴰ e (entries_of run x) → is_stub_of (name n k) e ≡ true → m ≡ metric_of e → HasStub run x m (name n k)
  unfolding is_stub_of metric_of
  stub_at x m n k (entry id info kind tos metric) h t e =
      let three : kind ≡ 3 = search (eqb-true, and_left, and_right) in
      let of : id ≡ n = search (eqb-true, and_left, and_right) in
      let under : info ≡ k = search (eqb-true, and_left, and_right) in
      let z : tos ≡ 0 = no_tos x id info kind tos metric (sound_here x (entry id info kind tos metric) h) in
      has_stub (here run x (entry n k 3 0 m) (rw (three, of, under, z, ← e) at h))

  pub stubs_gives : (x m : ℕ) (p : Name) → Memᴰ m (stubs_of run x p) → HasStub run x m p
  unfolding stubs_of
  stubs_gives x m (name n k) q =
      let p = map_gives metric_of (select (is_stub_of (name n k)) (entries_of run x)) q in
      let s = select_gives (is_stub_of (name n k)) (entries_of run x) p.1 in
      stub_at x m n k p.0 s.0 s.1 p.2

  pub stubs_make : {x m : ℕ} {p : Name} → HasStub run x m p → Memᴰ m (stubs_of run x p)
  unfolding stubs_of metric_of is_stub_of
  stubs_make {x} {m} (has_stub {network} {mask} h) =
      map_make metric_of (select_make (is_stub_of (name network mask)) (has_gives x (entry network mask 3 0 m) h) (and_make _ _ (eq-eqb network network refl) (eq-eqb mask mask refl)))

  -- ---- the names of the stub links

  name_gives_at : (r : ℕ) (es : List Entry) (p : Name) → Memᴰ (lsa r es) run → (e : Entry) → Memᴰ e es → is_stub e ≡ true → p ≡ name_of e → (m : ℕ) × HasStub run r m p
  unfolding is_stub name_of
  name_gives_at r es p among (entry id info kind tos metric) m t e =
      let three : kind ≡ 3 = eqb-true kind 3 t in
      let z : tos ≡ 0 = no_tos r id info kind tos metric (sound.entries r es among (entry id info kind tos metric) m) in
      (metric, rw e (has_stub (record { entries = es; among = among; has = rw (three, z) at m })))

  names_of : (l : Lsa) (p : Name) → Memᴰ l run → Memᴰ p (map name_of (select is_stub (links_in l))) → (r : ℕ) × (m : ℕ) × HasStub run r m p
  unfolding links_in
  names_of (lsa r es) p among q =
      let k = map_gives name_of (select is_stub es) q in
      let s = select_gives is_stub es k.1 in
      let g = name_gives_at r es p among k.0 s.0 s.1 k.2 in
      (r, g.0, g.1)

  pub names_gives : (p : Name) → Memᴰ p (stub_names run) → (r : ℕ) × (m : ℕ) × HasStub run r m p
  unfolding stub_names
  names_gives p q =
      let f = flat_gives (λ l. map name_of (select is_stub (links_in l))) run q in
      names_of f.0 p f.1 f.2

  pub names_make : {r m : ℕ} {p : Name} → HasStub run r m p → Memᴰ p (stub_names run)
  unfolding stub_names links_in is_stub name_of
  names_make {r} {m} (has_stub {network} {mask} h) =
      flat_make (λ l. map name_of (select is_stub (links_in l))) h.among (map_make name_of (select_make is_stub h.has refl))
