-- The spaces hold just the routers that document 01 puts there: bit r is one exactly when router r is a member.
-- Assumes nothing.
use Rattle.std.specs.Prelude.{ℕ, ◌^◌, ◌<◌, ◌≡◌, ◌↔◌}
use Rattle.std.proofs.Common.{◌∙◌, pow_mono}
use Rattle.std.proofs.Math.Bool.{true}
use Rattle.std.proofs.Math.Nat.{lt_of_lt_of_le}
use mathlib.Core.List.{List, Memᴰ}
use Rattle.lfa.specs.Lists.{HowMany}
use Rattle.lfa.specs.Network.{Arc, router}
use Rattle.lfa.specs.Walk.{Avoids, avoids}
use Rattle.lfa.specs.Space.{Protected, FirstHop, first_hops, Space, p_space, extended_p, q_space, NeighbourAvoids, Member, in_space, set_of, space_of, has, size_of}
use Rattle.lfa.proofs.Laws.List.{any_gives, any_make}
use Rattle.lfa.proofs.Laws.Counting.{counted_holds}
use Rattle.lfa.proofs.Laws.Bound.{falls}
use Rattle.lfa.specs.Sound.{Sound, Named}
use Rattle.lfa.proofs.Laws.Avoid.{avoids_gives, avoids_make}
use Rattle.lfa.proofs.Laws.Pair.{firsts_give, firsts_make}
use Rattle.lfa.proofs.Laws.Set.{in_set, has_set_of, set_of_lt, ones_set_of, size_ones}

module _ (n : ℕ) (hops : List Arc) (d : ℕ → ℕ → ℕ) (q : Protected) (sound : Sound n hops) (named : Named hops q) where
  decided : (t x : ℕ) → x < n → avoids n hops d (router t) q.number x ≡ true → Avoids hops d (router t) q.number x
  decided t x h e = let g = falls sound d (router t) in avoids_gives n hops d (router t) g.0 sound.within g.1 q.number x h e

  in_gives : (s : Space) (r : ℕ) → r < n → in_space s n hops d q r ≡ true → Member s hops d q r
  unfolding in_space
  in_gives p_space r h e = decided r q.near (sound.within.from named.outward) e
  in_gives extended_p r h e = let a = any_gives (λ f. avoids n hops d (router r) q.number f.router) (first_hops q hops) e in by a.0 a.1 a.2
    where
      by : (f : FirstHop) → Memᴰ f (first_hops q hops) → avoids n hops d (router r) q.number f.router ≡ true → NeighbourAvoids hops d q r
      by f k t =
          let g = firsts_give q hops f k in
          record { neighbour = f; first_hop = g; avoids_to = decided r f.router (sound.within.to g.joined) t }
  in_gives q_space r h e = decided q.far r h e

  in_make : (s : Space) (r : ℕ) → Member s hops d q r → in_space s n hops d q r ≡ true
  unfolding in_space
  in_make p_space r m = avoids_make n hops d (router r) q.number q.near m
  in_make extended_p r m =
      any_make (λ f. avoids n hops d (router r) q.number f.router)
      (firsts_make q hops m.neighbour m.first_hop) (avoids_make n hops d (router r) q.number m.neighbour.router m.avoids_to)
  in_make q_space r m = avoids_make n hops d (router q.far) q.number r m

  -- Bit r of a space is one exactly when r is a router and a member: the set is built from the test, and the test decides walks.
  pub space_holds : (s : Space) (r : ℕ) → (has (space_of s n hops d q) r ≡ true) ↔ ((r < n) × Member s hops d q r)
  unfolding space_of
  space_holds s r = (
    λ e. let m = in_set n (in_space s n hops d q) r e in (m.0, in_gives s r m.0 m.1),
    λ m. has_set_of n (in_space s n hops d q) r m.0 ∙ in_make s r m.1,
  )

  -- The size of a space is the number of its members: its ones are the routers that pass the test.
  pub space_size : (s : Space) → HowMany (Member s hops d q) n (size_of (space_of s n hops d q))
  unfolding space_of
  space_size s =
      let small : set_of n (in_space s n hops d q) < 2 ^ 64 = lt_of_lt_of_le (set_of_lt n (in_space s n hops d q)) (pow_mono sound.few) in
      rw (← size_ones (set_of n (in_space s n hops d q)) small, ones_set_of n (in_space s n hops d q)) (counted_holds (in_space s n hops d q) n (λ r h. (in_gives s r h, in_make s r)))
