-- What the numbers of an area say of spaces is what document 01 defines by walks, where the area holds the distances of the network.
-- Assumes nothing.
use Prim.Native.Nat.{ℕ, ◌<◌}
use Rattle.std.specs.Prelude.{◌≡◌, not, ◌||◌, get_or}
use Rattle.std.proofs.Math.Path.{refl, ap}
use Rattle.std.proofs.Common.{sym, ◌∙◌}
use Rattle.std.proofs.Math.Bool.{Bool, true, false}
use mathlib.Core.List.{List, [], ◌∷◌, Memᴰ}
use Rattle.std.specs.Int.Bits.{bit_or}
use Rattle.lfa.specs.Lists.{any_of}
use Rattle.lfa.specs.Network.{Arc, Target, router}
use Rattle.lfa.specs.Distance.{unreachable, towards}
use Rattle.lfa.specs.Walk.{avoids, visits}
use Rattle.lfa.specs.Space.{Protected, FirstHop, first_hops, Space, p_space, extended_p, q_space, in_space, space_of, set_of, has}
use Rattle.lfa.proofs.Laws.Set.{set_of_same, has_set_of}
use Rattle.lfa.proofs.Laws.Bound.{falls}
use Rattle.lfa.proofs.Laws.Visit.{visits_make, misses, misses_reached, arrival_visits}
use Rattle.lfa.proofs.Laws.Pair.{firsts_give}
use Rattle.metric.specs.Area.{held}
use Rattle.metric.specs.Column.{column}
use Rattle.metric.proofs.Laws.Column.{column_at}
use Rattle.metric.proofs.Laws.Set.{or_set_of, set_of_none, has_none}
use Rattle.column.specs.Laws.Calls.{router_known}
use Rattle.avoid.specs.Known.{Known}
use Rattle.avoid.specs.Laws.Known.{can_read, avoiding_to_lem, avoiding_from_lem}
use Rattle.search.specs.Spaces.{avoided_from, avoiding_in, gathered, space_for}

module _ (n : ℕ) (hops : List Arc) (q : Protected) (area : List ℕ) (known : Known n hops q area) where
  abbrev d : ℕ → ℕ → ℕ
  d = held n area

  pub near_in : q.near < n
  near_in = (can_read n hops q area known).near_in

  pub far_in : q.far < n
  far_in = (can_read n hops q area known).far_in

  -- a first hop is a router
  pub hop_in_lem : (f : FirstHop) → Memᴰ f (first_hops q hops) → f.router < n
  hop_in_lem f j = known.sound.within.to (firsts_give q hops f j).joined

  -- ---- the routers that avoid, and the spaces

  pub avoided_known : (x : ℕ) → x < n → avoided_from n q area x ≡ set_of n (λ r. avoids n hops d (router r) q.number x)
  avoided_known x i = avoiding_from_lem n hops q area known x i

  pub avoiding_known : (t : ℕ) (l : List ℕ) → l ≡ column n (towards d (router t)) → avoiding_in n q area l ≡ set_of n (avoids n hops d (router t) q.number)
  avoiding_known t l e = avoiding_to_lem n hops q area known t (λ x. get_or l x 0) (λ z k. rw e (column_at n (towards d (router t)) z k))

  -- The sets of first hops, put together one by one, hold what some first hop of the list avoids to.
  gathered_known : (p : ℕ → Bool) (fs : List FirstHop) → ((f : FirstHop) → Memᴰ f fs → f.router < n) →
      gathered n q area (set_of n p) fs ≡ set_of n (λ r. p r || any_of (λ f. avoids n hops d (router r) q.number f.router) fs)
  unfolding gathered any_of
  gathered_known p [] h = set_of_same n _ _ (λ r k. or_none (p r))
    where
      or_none : (b : Bool) → b ≡ (b || false)
      or_none true = refl
      or_none false = refl
  gathered_known p (f ∷ fs) h =
      let test : ℕ → Bool = λ r. avoids n hops d (router r) q.number f.router in
      let one : bit_or (set_of n p) (avoided_from n q area f.router) ≡ set_of n (λ r. p r || test r) =
      ap (bit_or (set_of n p)) (avoided_known f.router (h f (Memᴰ.head refl))) ∙ or_set_of n p test in
      ap (λ (s : ℕ). gathered n q area s fs) one ∙ gathered_known (λ r. p r || test r) fs (λ g m. h g (Memᴰ.tail m)) ∙ set_of_same n _ _ (λ r k. or_or (p r) (test r) _)
    where
      or_or : (a b c : Bool) → ((a || b) || c) ≡ (a || (b || c))
      or_or true b c = refl
      or_or false b c = refl

  -- Each space by the numbers of the area is that of document 01.
  pub space_known : (s : Space) → space_for s n hops q area ≡ space_of s n hops d q
  unfolding space_for space_of in_space
  space_known p_space = avoided_known q.near near_in
  space_known extended_p =
      ap (λ (s : ℕ). gathered n q area s (first_hops q hops)) (set_of_none n) ∙ gathered_known (λ r. false) (first_hops q hops) hop_in_lem
  space_known q_space = avoiding_known q.far _ (router_known n area known.sound.few known.long q.far far_in refl)

  -- From no router that reaches E does every walk towards E miss it: the empty set holds the routers from which walks do.
  pub none_misses : (y : ℕ) → y < n → towards d (router q.far) y < unreachable → has 0 y ≡ not (visits n hops d (router q.far) q.far y)
  none_misses y k f =
      let e = visits_make n hops d (router q.far) q.far known.sound.within (falls known.sound d (router q.far)).1 y k (arrival_visits n hops d known.sound known.costs q.far y f) in
      has_none y ∙ sym (ap not e)

-- a set of the routers from which every walk misses v holds those, of all that reach the target
pub set_misses : (n : ℕ) (hops : List Arc) (d : ℕ → ℕ → ℕ) (target : Target) (v set : ℕ) → set ≡ set_of n (misses n hops d target v) →
    (y : ℕ) → y < n → towards d target y < unreachable → has set y ≡ not (visits n hops d target v y)
set_misses n hops d target v set e y k f = ap (λ (s : ℕ). has s y) e ∙ has_set_of n (misses n hops d target v) y k ∙ misses_reached n hops d target v y f
