-- "a run of whole LSAs": where each LSA stands, the first bad one (number 16), and what the LSAs of a run without bad ones say.
-- Assumes nothing.
use Rattle.std.specs.Prelude.{ℕ, zero, suc, ◌+◌, ◌<◌, ◌≤◌, ◌≡◌, Bool, true, false, not, ◌&&◌, eqb, leb, length, drop}
use mathlib.Core.List.{List, map, Memᴰ}
use Rattle.lfa.specs.Lists.{below, every_below}
use Rattle.lfa.specs.File.{Bytes, part_of}
use Rattle.ospf.specs.Order.{Pairwise}
use Rattle.ospf.specs.Lsa.{Entry, Lsa, lsa, length_field, router_field, lsa_in, sound_lsa, SoundEntry, Apart, SoundLsa}

-- ---- where the LSAs stand

-- LSA 0 begins the run, and each next one begins where the length field of the one before says that it ends
unfoldable pub begin_of : Bytes → ℕ → ℕ
begin_of b zero = 0
begin_of b (suc i) = begin_of b i + length_field (drop (begin_of b i) b)

-- the bytes of LSA i: as many as its length field says, as far as the run has them
unfoldable pub lsa_bytes : Bytes → ℕ → Bytes
lsa_bytes b i = part_of b (begin_of b i) (length_field (drop (begin_of b i) b))

-- what the first n LSAs say
unfoldable pub lsas_of : Bytes → ℕ → List Lsa
lsas_of b n = map (λ i. lsa_in (lsa_bytes b i)) (below n)

-- ---- what a run is, in words

-- a good LSA: sound by itself, and not that of "a router named before"
pub record GoodLsa (b : Bytes) (i : ℕ) : Type 0 where
  pub sound : SoundLsa (lsa_bytes b i)
  pub new : (j : ℕ) → j < i → router_field (lsa_bytes b i) ≡ router_field (lsa_bytes b j) → ⊥

-- "the first bad LSA counted from 0": bytes that are left over after good LSAs begin one more LSA
pub record FirstBad (b : Bytes) (k : ℕ) : Type 0 where
  pub there : begin_of b k < length b
  pub bad : GoodLsa b k → ⊥
  pub before : (i : ℕ) → i < k → GoodLsa b i

-- the run is n good LSAs, end to end
pub record WholeRun (b : Bytes) (n : ℕ) : Type 0 where
  pub good : (i : ℕ) → i < n → GoodLsa b i
  pub ends : begin_of b n ≡ length b

-- after i good LSAs
pub record Passed (b : Bytes) (i : ℕ) : Type 0 where
  pub good : (j : ℕ) → j < i → GoodLsa b j
  pub far : i ≤ begin_of b i
  pub inside : begin_of b i ≤ length b

-- ---- the same, computed

-- "a router named before"
unfoldable pub router_new : Bytes → ℕ → Bool
router_new b i = every_below (λ j. not (eqb (router_field (lsa_bytes b i)) (router_field (lsa_bytes b j)))) i

unfoldable pub lsa_good : Bytes → ℕ → Bool
lsa_good b i = sound_lsa (lsa_bytes b i) && router_new b i

-- what going over a run finds: its first bad LSA, or how many LSAs it is
pub data Scanned : Type 0 where
  bad_at : (k : ℕ) → Scanned
  whole : (n : ℕ) → Scanned

-- from LSA i on, over at most `most` LSAs
unfoldable pub scan_from : Bytes → ℕ → ℕ → Scanned
scan_from b i zero = whole i
scan_from b i (suc most) =
    elim (leb (length b) (begin_of b i)) [
      | true ↦ whole i
      | false ↦ elim (lsa_good b i) [ true ↦ scan_from b (suc i) most | false ↦ bad_at i ]
    ]

-- a good LSA has bytes, so there are at most as many LSAs as bytes
unfoldable pub scan : Bytes → Scanned
scan b = scan_from b 0 (length b)

-- ---- what the LSAs of a run without bad ones have in common

-- LSAs of two routers
abbrev pub Differ : Lsa → Lsa → Type 0
Differ (lsa r es) (lsa r' es') = r ≡ r' → ⊥

-- no router twice, and the links of each LSA sound
pub record SoundRun (run : List Lsa) : Type 0 where
  pub once : Pairwise Differ run
  pub entries : (r : ℕ) (es : List Entry) → Memᴰ (lsa r es) run → (e : Entry) → Memᴰ e es → SoundEntry r e
  pub neighbours : (r : ℕ) (es : List Entry) → Memᴰ (lsa r es) run → Pairwise Apart es
