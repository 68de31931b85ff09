-- A finite distance is at most 63 × 65,535, whatever hops cost nothing: it is at most what it is where every hop costs 65,535, since a path
-- is a path there too; and there every hop costs something, so that a path of least cost has fewer than 64 hops.
-- Assumes nothing.
use Prim.Native.Nat.{ℕ, ◌+◌, ◌*◌, ◌≤◌, ◌<◌}
use mathlib.Core.Path.{◌≡◌}
use mathlib.Core.List.{List, map, Memᴰ}
use native.Mathlib.Omega.{arith}
use Rattle.lfa.specs.Network.{Arc, arc}
use Rattle.lfa.specs.Distance.{unreachable, RouterPath, stay, via, LeastCosts, stage, distance_in}
use Rattle.lfa.specs.Sound.{Descends, level, Within, Sound}
use Rattle.lfa.proofs.Laws.Bound.{distance_small, path_finite}
use Rattle.lfa.proofs.Laws.Distance.{distances_least}
use Rattle.lfa.proofs.Laws.List.{map_gives, map_make}
use Rattle.distance.specs.Cells.{CostsCapped}

-- the same hop at the largest cost
raise : Arc → Arc
raise (arc x z c l) = arc x z 65535 l

module _ (hops : List Arc) where
  raised : List Arc
  raised = map raise hops

  up : {x z c l : ℕ} → Memᴰ (arc x z c l) hops → Memᴰ (arc x z 65535 l) raised
  unfolding raised raise
  up m = map_make raise m

  down : {x z c l : ℕ} → Memᴰ (arc x z c l) raised → (b : ℕ) × Memᴰ (arc x z b l) hops × (c ≡ 65535)
  unfolding raised raise
  down {x} {z} {c} {l} m = let r = map_gives raise hops m in go r.0 r.1 r.2
    where
      go : (a : Arc) → Memᴰ a hops → arc x z c l ≡ raise a → (b : ℕ) × Memᴰ (arc x z b l) hops × (c ≡ 65535)
      go (arc u v b k) m e =
          let eu : x ≡ u = cc in
          let ev : z ≡ v = cc in
          let ek : l ≡ k = cc in
          (b, rw (eu, ev, ek) m, (cc))

  path_up : {x t k : ℕ} → RouterPath hops x t k → (j : ℕ) × RouterPath raised x t j
  path_up stay = (0, stay)
  path_up (via m r) = let s = path_up r in (65535 + s.0, via (up m) s.1)

  module _ (n : ℕ) (few : n ≤ 64) (within : Within hops n) (capped : CostsCapped hops) where
    path_down : {x t k : ℕ} → RouterPath raised x t k → (j : ℕ) × (j ≤ k) × RouterPath hops x t j
    path_down stay = (0, omega arith, stay)
    path_down (via m r) =
        let a = down m in
        let s = path_down r in
        (a.0 + s.0, omega (arith, capped.cost a.1, a.2, s.1), via a.1 s.2)

    descends : Descends raised level
    descends = record { hop = λ m. omega (arith, (down m).2) }

    sound : Sound n raised
    sound = record {
      few = few;
      within = record { from = λ m. within.from (down m).1; to = λ m. within.to (down m).1 };
      height = level;
      descends = descends;
      capped = λ m. omega (arith, (down m).2);
    }

    pub finite_small : (d : ℕ → ℕ → ℕ) → LeastCosts hops d → (x t : ℕ) → x < n → d x t < unreachable → d x t ≤ 63 * 65535
    finite_small d least x t hx f =
        let e = distance_in (stage n raised n) in
        let most = distances_least n raised sound.within in
        let g : e x t < unreachable = path_finite n raised e sound most hx (path_up (least.path x t f)).1 in
        let r = path_down (most.path x t g) in
        omega (arith, distance_small n raised e sound most x t hx g, r.1, least.least r.2)
