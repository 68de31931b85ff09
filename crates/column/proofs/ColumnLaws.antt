-- Laws of columns and of the distance to a prefix, one router and one slot more.
-- Assumes nothing.
use Prim.Native.Nat.{ℕ, suc, ◌+◌, ◌-◌, ◌<◌, min}
use mathlib.Core.Path.{◌≡◌, refl, sym, ap, ap₂, ◌∙◌}
use mathlib.Core.List.{List, [], ◌∷◌, ◌++◌, map, append_assoc, map-append}
use native.Mathlib.Omega.{arith}
use lib.ListN.{length, get_or, set, replicate, length-append}
use lib.Seq.{set_at}
use Rattle.lfa.specs.Lists.{count_up, below}
use Rattle.lfa.specs.FileOf.{pad}
use Rattle.lfa.specs.Network.{Attachment, at, Target}
use Rattle.lfa.specs.Distance.{unreachable, least, cost_over, towards}
use Rattle.lfa.proofs.Laws.Target.{towards_most}
use Rattle.lfa.proofs.Laws.Counting.{length_map_below}
use Rattle.metric.specs.Column.{column, slots_in}
use Rattle.metric.proofs.Laws.List.{map_below_more}

-- ---- columns

-- no cell yet
pub column_none : (f : ℕ → ℕ) → replicate 64 0 ≡ column 0 f
unfolding column pad below count_up
column_none f = refl

-- a padded list with one number more
pad_more : (n : ℕ) (b : List ℕ) (v : ℕ) → length b < n → set (pad n b) (length b) v ≡ pad n (b ++ (v ∷ []))
unfolding pad
pad_more n b v h =
    let e : n - length b ≡ suc (n - (length b + 1)) = omega arith in
    let k : n - length (b ++ (v ∷ [])) ≡ n - (length b + 1) = ap (λ (m : ℕ). n - m) (length-append b (v ∷ [])) in
    ap (λ (m : ℕ). set (b ++ replicate m 0) (length b) v) e ∙ set_at b 0 (replicate (n - (length b + 1)) 0) v (length b) refl
    ∙ sym (append_assoc b (v ∷ []) (replicate (n - (length b + 1)) 0)) ∙ ap (λ (m : ℕ). (b ++ (v ∷ [])) ++ replicate m 0) (sym k)

-- one cell more
pub column_more : {i v : ℕ} {l : List ℕ} (f : ℕ → ℕ) → i < 64 → l ≡ column i f → v ≡ f i → set l i v ≡ column (i + 1) f
unfolding column
column_more {i} {v} {l} f h e q =
    let k : length (map f (below i)) ≡ i = length_map_below f i in
    ap₂ (λ (a : List ℕ) (w : ℕ). set a i w) e q ∙ ap (λ (j : ℕ). set (pad 64 (map f (below i))) j (f i)) (sym k)
    ∙ pad_more 64 (map f (below i)) (f i) (omega arith) ∙ ap (pad 64) (sym (map_below_more f i))

-- ---- prefixes

-- the least of some numbers and one more
least_more : (l : List ℕ) (x : ℕ) → least (l ++ (x ∷ [])) ≡ min (least l) x
unfolding least
least_more [] x = omega arith
least_more (y ∷ l) x = omega (arith, least_more l x)

-- the distance to a prefix with one slot more
slot_more : (d : ℕ → ℕ → ℕ) (routers costs : List ℕ) (slot s x : ℕ) →
    towards d (slots_in routers costs slot (s + 1)) x ≡ min (towards d (slots_in routers costs slot s) x) (d x (get_or routers (slot + s) 0) + get_or costs (slot + s) 0)
unfolding towards slots_in cost_over
slot_more d routers costs slot s x =
    let f : ℕ → Attachment = λ s. at (get_or routers (slot + s) 0) (get_or costs (slot + s) 0) in
    ap (λ (l : Target). least (map (cost_over (d x)) l)) (map_below_more f s)
    ∙ ap least (simp map-append) ∙ least_more (map (cost_over (d x)) (map f (below s))) (cost_over (d x) (f s))

-- the same of the cells that were read: the lesser of the sum over the slot and of what was found before
pub slot_turn : {best a dx c sum : ℕ} (d : ℕ → ℕ → ℕ) (routers costs : List ℕ) (slot s x : ℕ) → best ≡ towards d (slots_in routers costs slot s) x →
    a ≡ get_or routers (slot + s) 0 → dx ≡ d x a → c ≡ get_or costs (slot + s) 0 → sum ≡ min (dx + c) unreachable → min sum best ≡ towards d (slots_in routers costs slot (s + 1)) x
slot_turn {a} d routers costs slot s x e ea ed ec es =
    let f : d x a ≡ d x (get_or routers (slot + s) 0) = ap (d x) ea in
    omega (arith, slot_more d routers costs slot s x, towards_most d (slots_in routers costs slot s) x)
