-- The answers of the public functions where the numbers are those of a network, as a caller knows it.
-- Assumes nothing.
use Rattle.std.specs.Prelude.{ℕ, ◌+◌, ◌*◌, ◌≤◌, ◌<◌, ◌≡◌, List, get_or, length}
use Rattle.std.proofs.Common.{sym, ◌∙◌, arith}
use borrow.Author.Tests.{lt-ltb}
use Rattle.lfa.specs.Lists.{below}
use Rattle.lfa.specs.Network.{at, router, attachment_of, is_attached}
use Rattle.lfa.specs.Distance.{towards}
use Rattle.lfa.specs.Space.{has}
use Rattle.lfa.proofs.Laws.Set.{has_set_of}
use Rattle.metric.specs.Fit.{SlotsWithin}
use Rattle.metric.proofs.Laws.Fit.{cells_fit_lem, slots_fit_lem}
use Rattle.metric.proofs.Laws.List.{any_map}
use Rattle.metric.specs.Area.{held}
use Rattle.metric.specs.Column.{column, slots_in}
use Rattle.column.specs.Calls.{router_column, prefix_column, in_slots, attached_set}

-- the column holds the distances to the target
module _ (n : ℕ) (area : List ℕ) (few : n ≤ 64) (long : n * n ≤ length area) where
  pub router_known : {column-read : List ℕ} (t : ℕ) → t < n → column-read ≡ router_column n t area → column-read ≡ column n (towards (held n area) (router t))
  unfolding router_column
  router_known t h e = e ∙ rw (cells_fit_lem n (length area) few long, lt-ltb t n h, router_column)

  pub prefix_known : {column-read : List ℕ} (routers costs : List ℕ) (slot count : ℕ) → SlotsWithin n slot count routers → column-read ≡ prefix_column n routers costs slot count area →
      column-read ≡ column n (towards (held n area) (slots_in routers costs slot count))
  unfolding prefix_column
  prefix_known routers costs slot count w e = e ∙ rw (cells_fit_lem n (length area) few long, slots_fit_lem w, prefix_column)

-- a router is in one of the slots exactly when it is attached
in_slots_lem : (routers costs : List ℕ) (slot count x : ℕ) → in_slots routers slot count x ≡ is_attached (slots_in routers costs slot count) x
unfolding in_slots is_attached attachment_of slots_in
in_slots_lem routers costs slot count x = sym (any_map (attachment_of x) (λ s. at (get_or routers (slot + s) 0) (get_or costs (slot + s) 0)) (below count))

-- The set holds just the routers attached to the prefix.
pub attached_known : {n slot count x : ℕ} {routers : List ℕ} (costs : List ℕ) → n ≤ 64 → SlotsWithin n slot count routers → x < n → has (attached_set routers slot count) x ≡ is_attached (slots_in routers costs slot count) x
unfolding attached_set
attached_known {n} {slot} {count} {x} {routers} costs few w h =
    let wide : SlotsWithin 64 slot count routers = record { few = w.few; router_in = λ s k. omega (arith, w.router_in s k) } in
    rw (slots_fit_lem wide, attached_set) (has_set_of 64 (in_slots routers slot count) x (omega arith) ∙ in_slots_lem routers costs slot count x)
