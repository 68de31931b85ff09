-- The lists of first hops and of pairs hold just the first hops and the pairs, and the pair chosen is the first of ALL pairs that
-- serve: none is chosen exactly when none serves.
-- Assumes nothing.
use Rattle.std.specs.Prelude.{ℕ, ◌<◌, ◌≡◌, refl, true, false, eqb}
use Rattle.std.proofs.Common.{sym, subst, ltb-true, lt-ltb, eqb-true, eq-eqb, ne_eqb}
use Rattle.std.proofs.Math.Option.{Option, none, some}
use mathlib.Core.List.Memᴰ
use mathlib.Core.List.{List, Memᴰ}
use Rattle.std.proofs.lemmas.Bool.{eqb-false, not-true}
use Rattle.lfa.specs.Lists.{below, select}
use Rattle.lfa.specs.Network.{Arc, arc, Target, router}
use Rattle.lfa.specs.Space.{Protected, FirstHop, IsFirstHop, is_first, hop_over, first_hops}
use Rattle.lfa.specs.Repair.{Pair, IsPair, is_endpoint, pairs_of, pairs, Serves, serves, told_of, keys_of, First, pair_key, choose, first_pair}
use Rattle.lfa.proofs.Laws.Test.{and_left, and_right, and_make}
use Rattle.lfa.proofs.Laws.List.{mem_below, below_mem, select_gives, select_make, map_gives, map_make, flat_gives, flat_make}
use Rattle.lfa.proofs.Laws.Bound.{falls}
use Rattle.lfa.specs.Sound.{Sound}
use Rattle.lfa.proofs.Laws.Avoid.{avoids_gives, avoids_make}
use Rattle.lfa.proofs.Laws.Order.{Chosen, chosen, key_first}

-- ---- first hops

first_facts : (q : Protected) (x z c l : ℕ) → is_first q (arc x z c l) ≡ true → (x ≡ q.near) × (eqb z q.far ≡ false) × (c < q.maintenance)
unfolding is_first
first_facts q x z c l e = (search (eqb-true, and_left), search (not-true, and_left, and_right), search (ltb-true, and_right))

-- the first hops are the neighbours of S other than E over links not under maintenance, each with that link and its cost
pub firsts_give : (q : Protected) (hops : List Arc) (f : FirstHop) → Memᴰ f (first_hops q hops) → IsFirstHop hops q f
unfolding first_hops hop_over
firsts_give q hops f m =
    let r = map_gives hop_over (select (is_first q) hops) m in
    let s = select_gives (is_first q) hops r.1 in
    subst (IsFirstHop hops q) (sym r.2) (go r.0 s.0 s.1)
  where
    go : (a : Arc) → Memᴰ a hops → is_first q a ≡ true → IsFirstHop hops q (hop_over a)
    go (arc x z b k) j t =
        let g = first_facts q x z b k t in
        let x-is : x ≡ q.near = g.0 in
        record { joined = Memᴰ.cast (rw x-is) j; not_far = eqb-false z q.far g.1; in_service = g.2 }

pub firsts_make : (q : Protected) (hops : List Arc) (f : FirstHop) → IsFirstHop hops q f → Memᴰ f (first_hops q hops)
unfolding first_hops hop_over is_first
firsts_make q hops f is = map_make hop_over (select_make (is_first q) is.joined (rw (eq-eqb q.near q.near refl, ne_eqb f.router q.far is.not_far, lt-ltb f.cost q.maintenance is.in_service, is_first)))

-- ---- pairs

pub pairs_give : (q : Protected) (n : ℕ) (hops : List Arc) (p : Pair) → Memᴰ p (pairs q n hops) → IsPair n hops q p
unfolding pairs pairs_of is_endpoint
pairs_give q n hops p k =
    let r = flat_gives (pairs_of q n) (first_hops q hops) k in
    let g = map_gives (λ y. record { hop = r.0; endpoint = y }) (select (is_endpoint q) (below n)) r.2 in
    subst (IsPair n hops q) (sym g.2) (of_first r.0 r.1 g.0 g.1)
  where
    of_first : (f : FirstHop) → Memᴰ f (first_hops q hops) → (y : ℕ) → Memᴰ y (select (is_endpoint q) (below n)) → IsPair n hops q (record { hop = f; endpoint = y })
    of_first f j y k =
        let s = select_gives (is_endpoint q) (below n) k in
        record {
          first_hop = firsts_give q hops f j;
          end_in = below_mem n y s.0;
          end_not_near = eqb-false y q.near (search (not-true, and_left));
          end_not_far = eqb-false y q.far (search (not-true, and_right));
        }

pub pairs_make : (q : Protected) (n : ℕ) (hops : List Arc) (p : Pair) → IsPair n hops q p → Memᴰ p (pairs q n hops)
unfolding pairs pairs_of is_endpoint
pairs_make q n hops p is =
    flat_make (pairs_of q n) (firsts_make q hops p.hop is.first_hop)
    (map_make (λ y. record { hop = p.hop; endpoint = y }) (select_make (is_endpoint q) (mem_below n p.endpoint is.end_in) t))
  where
    t : is_endpoint q p.endpoint ≡ true
    t = rw (ne_eqb p.endpoint q.near is.end_not_near, ne_eqb p.endpoint q.far is.end_not_far, is_endpoint)

-- ---- the choice

module _ (n : ℕ) (hops : List Arc) (d : ℕ → ℕ → ℕ) (q : Protected) (to : Target) (sound : Sound n hops) where
  -- a pair serves: both its legs avoid the link
  abbrev pub ServesBy : Pair → Type 0
  ServesBy p = Serves hops d q to p.hop.router p.endpoint

  -- the test of serving decides serving, for any two routers
  pub serves_gives : (p : Pair) → p.hop.router < n → p.endpoint < n → serves n hops d q to p ≡ true → ServesBy p
  unfolding serves
  serves_gives p hm hy e =
      let g = falls sound d (router p.endpoint) in
      let h = falls sound d to in
      record {
        tunnel = avoids_gives n hops d (router p.endpoint) g.0 sound.within g.1 q.number p.hop.router hm (search and_left);
        onward = avoids_gives n hops d to h.0 sound.within h.1 q.number p.endpoint hy (search and_right);
      }

  pub serves_make : (p : Pair) → ServesBy p → serves n hops d q to p ≡ true
  unfolding serves
  serves_make p s = and_make _ _ (avoids_make n hops d (router p.endpoint) q.number p.hop.router s.tunnel) (avoids_make n hops d to q.number p.endpoint s.onward)

  module _ (ranks : List ℕ) where
    -- what it means to have chosen: where none is chosen no pair serves; else the pair serves and is first by the five clauses among
    -- all serving pairs
    abbrev pub Best : Option Pair → Type 0
    Best none = (p : Pair) → IsPair n hops q p → ServesBy p → ⊥
    Best (some b) =
        IsPair n hops q b × ServesBy b ×
        ((p : Pair) → IsPair n hops q p → ServesBy p → First (keys_of ranks d q (told_of n hops d q to b)) (keys_of ranks d q (told_of n hops d q to p)))

    -- The pair chosen is the best: the list searched holds each serving pair and nothing else, and the choice from a list is first
    -- by the keys, which agree with the clauses.
    pub best : Best (first_pair ranks n hops d q to)
    unfolding first_pair pair_key
    best = go (choose (pair_key ranks n hops d q to) serving) (chosen (pair_key ranks n hops d q to) serving)
      where
        serving : List Pair
        serving = select (serves n hops d q to) (pairs q n hops)

        listed : (p : Pair) → IsPair n hops q p → ServesBy p → Memᴰ p serving
        listed p is s = select_make (serves n hops d q to) (pairs_make q n hops p is) (serves_make p s)

        go : (o : Option Pair) → Chosen (pair_key ranks n hops d q to) serving o → Best o
        go none f = λ p is s. f p (listed p is s)
        go (some b) f =
            let g = select_gives (serves n hops d q to) (pairs q n hops) f.0 in
            let is = pairs_give q n hops b g.0 in (
              is,
              serves_gives b (sound.within.to is.first_hop.joined) is.end_in g.1,
              λ p is' s. key_first (keys_of ranks d q (told_of n hops d q to b)) (keys_of ranks d q (told_of n hops d q to p)) (f.1 p (listed p is' s)),
            )
