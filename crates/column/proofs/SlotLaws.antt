-- The set of attached routers, slot by slot.
-- Assumes nothing.
use Prim.Native.Nat.{ℕ, ◌+◌, ◌*◌, ◌%◌, ◌^◌, ◌<◌}
use mathlib.Core.Path.{◌≡◌, sym, ap, ap₂, ◌∙◌}
use mathlib.Core.List.{List}
use native.Mathlib.Omega.{arith}
use lib.Bits.{bit_or}
use lib.Dec.{eqb}
use lib.ListN.{get_or}
use lib.Pow.{shl_exact}
use Rattle.lfa.specs.Lists.{count_up, below, any_of}
use Rattle.lfa.specs.Space.{set_of}
use Rattle.lfa.proofs.Laws.Set.{set_of_same}
use Rattle.metric.proofs.Laws.List.{below_more, any_more}
use Rattle.metric.proofs.Laws.Set.{or_set_of, one_router_lem, set_of_none}
use Rattle.column.specs.Calls.{in_slots}

module _ (routers : List ℕ) (slot : ℕ) where
  pub no_slots : 0 ≡ set_of 64 (in_slots routers slot 0)
  unfolding in_slots any_of below count_up
  no_slots = set_of_none 64

  -- `set | (1 << router)` puts the router of one slot more in
  pub slot_more : {set v : ℕ} (s : ℕ) → set ≡ set_of 64 (in_slots routers slot s) → v ≡ get_or routers (slot + s) 0 → v < 64 → bit_or set ((1 * 2 ^ v) % 2 ^ 64) ≡ set_of 64 (in_slots routers slot (s + 1))
  unfolding in_slots
  slot_more {set} {v} s e r h =
      let one : (1 * 2 ^ v) % 2 ^ 64 ≡ set_of 64 (λ x. eqb v x) = shl_exact 1 v 64 (omega arith) (omega arith) ∙ omega arith ∙ sym (one_router_lem 64 v h) in
      ap₂ bit_or e (one ∙ ap (λ (k : ℕ). set_of 64 (λ x. eqb k x)) r)
      ∙ or_set_of 64 (in_slots routers slot s) (λ x. eqb (get_or routers (slot + s) 0) x)
      ∙ set_of_same 64 _ _ (λ x i. sym (ap (any_of (λ k. eqb (get_or routers (slot + k) 0) x)) (below_more s) ∙ any_more (λ k. eqb (get_or routers (slot + k) 0) x) (below s) s))
