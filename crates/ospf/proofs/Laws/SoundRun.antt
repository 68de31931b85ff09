-- What the LSAs of a run say, of which none is bad, is sound.
-- Assumes nothing.
use Rattle.std.specs.Prelude.{ℕ, ◌+◌, ◌≤◌, ◌<◌, ◌≡◌}
use Rattle.std.proofs.Common.{sym, arith}
use mathlib.Core.List.{List, map, Memᴰ}
use Rattle.lfa.specs.Lists.{below}
use Rattle.lfa.specs.File.{Bytes, byte_at}
use Rattle.lfa.proofs.Laws.Counting.{map_below_gives}
use Rattle.lfa.proofs.Laws.File.Passes.{AreBytes}
use Rattle.ospf.specs.Order.{Pairwise}
use Rattle.ospf.specs.Lsa.{be16, be32, router_field, links_field, entry_at, Entry, lsa, lsa_in, SoundEntry, Apart}
use Rattle.ospf.specs.Run.{lsa_bytes, lsas_of, WholeRun, Differ, SoundRun}
use Rattle.ospf.proofs.Laws.Order.{below_pairwise}

-- ---- numbers are as small as their fields

pub be16_small : (l : Bytes) (k : ℕ) → AreBytes l → be16 l k ≤ 65535
unfolding be16 byte_at
be16_small l k a = omega (arith, a.small k, a.small (k + 1))

pub be32_small : (l : Bytes) (k : ℕ) → AreBytes l → be32 l k < 4294967296
unfolding be32
be32_small l k a = omega (arith, be16_small l k a, be16_small l (k + 2) a)

-- ---- the LSAs of a run

module _ (b : Bytes) (n : ℕ) (w : WholeRun b n) where
  abbrev entries_at : ℕ → List Entry
  entries_at i = map (entry_at (lsa_bytes b i)) (below (links_field (lsa_bytes b i)))

  -- an LSA of the run is one of the first n
  pub among : (r : ℕ) (es : List Entry) → Memᴰ (lsa r es) (lsas_of b n) → (i : ℕ) × (i < n) × (r ≡ router_field (lsa_bytes b i)) × (es ≡ entries_at i)
  unfolding lsas_of lsa_in
  among r es m = let p = map_below_gives (λ i. lsa_in (lsa_bytes b i)) n m in (p.0, p.1, cc p.2, cc p.2)

  once : Pairwise Differ (lsas_of b n)
  unfolding lsas_of lsa_in
  once = below_pairwise Differ (λ i. lsa_in (lsa_bytes b i)) n (λ i j h k. λ e. (w.good j k).new i h (sym e))

  sound_entries : (r : ℕ) (es : List Entry) → Memᴰ (lsa r es) (lsas_of b n) → (e : Entry) → Memᴰ e es → SoundEntry r e
  sound_entries r es m e q =
      let p = among r es m in
      let k = map_below_gives (entry_at (lsa_bytes b p.0)) (links_field (lsa_bytes b p.0)) (rw p.3 at q) in
      rw (p.2, k.2) ((w.good p.0 p.1).sound.entries k.0 k.1)

  apart_entries : (r : ℕ) (es : List Entry) → Memᴰ (lsa r es) (lsas_of b n) → Pairwise Apart es
  apart_entries r es m =
      let p = among r es m in
      rw p.3 (below_pairwise Apart (entry_at (lsa_bytes b p.0)) (links_field (lsa_bytes b p.0))
      (λ j k h q. (w.good p.0 p.1).sound.neighbours j k h q))

  -- The LSAs of a run of which none is bad are sound together: each is sound by itself, and each router is new when it comes.
  pub run_sound : SoundRun (lsas_of b n)
  run_sound = record { once = once; entries = sound_entries; neighbours = apart_entries }
