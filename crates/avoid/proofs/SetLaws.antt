-- Laws of the sets: the test of the cells that were read is the test of the distances.
-- Assumes nothing.
use Prim.Native.Nat.{ℕ, ◌<◌}
use mathlib.Core.Path.{◌≡◌}
use mathlib.Core.Bool.{Bool}
use mathlib.Core.List.{List}
use Rattle.lfa.specs.Space.{Protected}
use Rattle.metric.specs.Area.{held, cell_in}
use Rattle.metric.proofs.Laws.Area.{cell_known}
use Rattle.avoid.specs.Avoiding.{below_both, clears, clears_to}
use Rattle.avoid.specs.Calls.{Readable}

-- the cell of two routers that was read
pub known : {n v : ℕ} {q : Protected} {area : List ℕ} → Readable n q area → (x t : ℕ) → x < n → t < n → v ≡ cell_in n area x t → v ≡ held n area x t
known {n} {area} r x t hx ht = cell_known n area x t hx ht r.few r.long

-- the test of the cells that were read is the test of the distances
pub cells_clear : {own near far s e : ℕ} {b : Bool} (left : ℕ → ℕ) (sums : ℕ → ℕ → ℕ) (q : Protected) (target : ℕ → ℕ) (x : ℕ) →
    own ≡ left x → near ≡ sums x q.near → far ≡ sums x q.far → s ≡ target q.near → e ≡ target q.far →
    b ≡ below_both own near far q.out q.back s e → b ≡ clears left sums q target x
unfolding clears
cells_clear left sums q target x o n g s e r = rw (← o, ← n, ← g, ← s, ← e) r

pub cells_clear_to : {own near far s e : ℕ} {b : Bool} (left sums : ℕ → ℕ → ℕ) (q : Protected) (x r : ℕ) →
    own ≡ left x r → near ≡ sums x q.near → far ≡ sums x q.far → s ≡ sums q.near r → e ≡ sums q.far r →
    b ≡ below_both own near far q.out q.back s e → b ≡ clears_to left sums q x r
unfolding clears_to
cells_clear_to left sums q x r = cells_clear (λ z. left z r) sums q (λ z. sums z r) x
