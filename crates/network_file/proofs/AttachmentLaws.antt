-- The columns of prefixes: with the numbers read from its entry the cells of one prefix more are filled, and what is filled at the end
-- are the columns of the network that the file holds.
-- Assumes nothing.
use Prim.Native.Nat.{ℕ, ◌+◌, ◌*◌, ◌/◌, ◌%◌, ◌≤◌, ◌<◌}
use mathlib.Core.Path.{◌≡◌, refl, sym, ap, ◌∙◌}
use mathlib.Core.Bool.{true}
use mathlib.Core.List.{List, map, map-map}
use native.Mathlib.Omega.{arith}
use lib.ListN.{length, get_or}
use Rattle.lfa.specs.Lists.{below, flat}
use Rattle.lfa.specs.Network.{Attachment}
use Rattle.lfa.specs.File.{Bytes, byte_at, word_at, routers_of, prefix_entry, prefix_of, prefix_in, attachments, slot_router, slot, sound_prefix, prefix_good}
use Rattle.lfa.specs.FileOf.{pad}
use Rattle.lfa.proofs.Laws.Counting.{map_below_same}
use Rattle.lfa.proofs.Laws.File.RowFacts.{prefix_facts, prefix_length}
use Rattle.network_file.specs.Struct.{router_of, cost_of, column, stored, attached_column, slot_column, prefixes_in}
use Rattle.network_file.specs.Entry.{PrefixesSound}
use Rattle.network_file.proofs.SlotLaws.{zero_from}
use Rattle.network_file.proofs.ColumnLaws.{column_map, column_same, column_full, stored_column, eights}

-- ---- the numbers of a prefix, as they stand in its entry

pub attached_read : (b e : Bytes) (p : ℕ) → e ≡ prefix_entry b p → get_or e 0 0 ≡ attachments (prefix_entry b p)
unfolding attachments byte_at
attached_read b e p is = rw is

pub router_read : (e : Bytes) (s : ℕ) → get_or e (2 + 4 * s) 0 ≡ router_of (slot e s)
unfolding router_of slot slot_router byte_at
router_read e s = refl

pub cost_read : (e : Bytes) (s : ℕ) → word_at e (4 + 4 * s) ≡ cost_of (slot e s)
unfolding cost_of slot
cost_read e s = refl

-- The slots of prefix p are the next eight of the column: with them the slots of p + 1 prefixes are filled. Cell 8 × p + s is that of
-- slot s of prefix p, by division.
pub eight_more : (b e : Bytes) (p : ℕ) (f : Attachment → ℕ) {d cells : List ℕ} → p < 128 → e ≡ prefix_entry b p →
    cells ≡ column 1024 (8 * p) (λ k. f (slot (prefix_entry b (k / 8)) (k % 8))) → d ≡ stored (8 * p) 8 (λ s. f (slot e s)) cells →
    d ≡ column 1024 (8 * (p + 1)) (λ k. f (slot (prefix_entry b (k / 8)) (k % 8)))
eight_more b e p f h is c q =
    let next : 8 * (p + 1) ≡ 8 * p + 8 = omega arith in
    q ∙ rw (c, next) (stored_column 1024 (8 * p) 8 _ _ (omega arith) same)
  where
    same : (s : ℕ) → s < 8 → f (slot e s) ≡ f (slot (prefix_entry b ((8 * p + s) / 8)) ((8 * p + s) % 8))
    same s l =
        let place : (8 * p + s) / 8 ≡ p = omega arith in
        let rest : (8 * p + s) % 8 ≡ s = omega arith in
        rw (place, rest, is)

-- ---- columns

column_attached : (b : Bytes) (n : ℕ) → column 128 n (λ p. attachments (prefix_entry b p)) ≡ attached_column (prefixes_in b n)
unfolding attached_column prefixes_in prefix_of
column_attached b n = column_same 128 n _ (λ p. length (prefix_of b p)) (λ p h. sym (prefix_length (prefix_entry b p))) ∙ column_map 128 n length (prefix_of b)

-- a byte of an entry that row 8 passes, past its used slots
module _ (n : ℕ) (e : Bytes) (g : sound_prefix n e ≡ true) where
  unused_byte : (i : ℕ) → 2 + 4 * attachments e ≤ i → byte_at e i ≡ 0
  unfolding byte_at
  unused_byte i h = zero_from e (2 + 4 * attachments e) (prefix_facts n e g).unused_zero_lem i h

  unused_router : (s : ℕ) → attachments e ≤ s → router_of (slot e s) ≡ 0
  unfolding router_of slot slot_router
  unused_router s h = unused_byte (2 + 4 * s) (omega arith)

  unused_cost : (s : ℕ) → attachments e ≤ s → cost_of (slot e s) ≡ 0
  unfolding cost_of slot word_at
  unused_cost s h = omega (arith, unused_byte (4 + 4 * s) (omega arith), unused_byte (4 + 4 * s + 1) (omega arith))

-- The column of one number of the slots, where that number is zero in each slot that is not used: the eight cells of a prefix are then
-- the numbers of its attachments, padded with zeros, and cell k of the column is cell k % 8 of prefix k / 8.
column_slots : (b : Bytes) (n : ℕ) (f : Attachment → ℕ) → ((p : ℕ) → p < n → attachments (prefix_entry b p) ≤ 8) →
    ((p s : ℕ) → p < n → attachments (prefix_entry b p) ≤ s → f (slot (prefix_entry b p) s) ≡ 0) →
    column 1024 (8 * n) (λ k. f (slot (prefix_entry b (k / 8)) (k % 8))) ≡ slot_column f (prefixes_in b n)
unfolding slot_column prefixes_in column prefix_of prefix_in
column_slots b n f few zeros =
    ap (pad 1024)
    (sym (eights (λ p s. f (slot (prefix_entry b p) s)) n)
    ∙ ap flat (map_below_same (λ p. map (λ s. f (slot (prefix_entry b p) s)) (below 8)) (λ p. pad 8 (map f (prefix_of b p))) n (λ p h. sym (eight p h))
    ∙ sym (map-map (λ to. pad 8 (map f to)) (prefix_of b) (below n))))
  where
    eight : (p : ℕ) → p < n → pad 8 (map f (prefix_of b p)) ≡ map (λ s. f (slot (prefix_entry b p) s)) (below 8)
    eight p h =
        sym (column_map 8 (attachments (prefix_entry b p)) f (slot (prefix_entry b p)))
        ∙ column_full 8 (attachments (prefix_entry b p)) (λ s. f (slot (prefix_entry b p) s)) (few p h) (λ s k l. zeros p s h k)

-- The columns of routers and costs are those of the attachments, where row 8 has passed: then the slots that are not used are zero, as
-- the cells of the network's columns are.
module _ (b : Bytes) (n : ℕ) (sound : PrefixesSound b n) where
  few_slots : (p : ℕ) → p < n → attachments (prefix_entry b p) ≤ 8
  unfolding prefix_good
  few_slots p h = (prefix_facts (routers_of b) (prefix_entry b p) (sound p h)).few

  column_routers : column 1024 (8 * n) (λ k. router_of (slot (prefix_entry b (k / 8)) (k % 8))) ≡ slot_column router_of (prefixes_in b n)
  unfolding prefix_good
  column_routers = column_slots b n router_of few_slots (λ p s h. unused_router (routers_of b) (prefix_entry b p) (sound p h) s)

  column_costs : column 1024 (8 * n) (λ k. cost_of (slot (prefix_entry b (k / 8)) (k % 8))) ≡ slot_column cost_of (prefixes_in b n)
  unfolding prefix_good
  column_costs = column_slots b n cost_of few_slots (λ p s h. unused_cost (routers_of b) (prefix_entry b p) (sound p h) s)

  -- all three columns
  pub columns_filled : {attached at own : List ℕ} → attached ≡ column 128 n (λ p. attachments (prefix_entry b p)) → at ≡ column 1024 (8 * n) (λ k. router_of (slot (prefix_entry b (k / 8)) (k % 8))) →
      own ≡ column 1024 (8 * n) (λ k. cost_of (slot (prefix_entry b (k / 8)) (k % 8))) →
      (attached ≡ attached_column (prefixes_in b n)) × (at ≡ slot_column router_of (prefixes_in b n)) × (own ≡ slot_column cost_of (prefixes_in b n))
  columns_filled a r c = (a ∙ column_attached b n, r ∙ column_routers, c ∙ column_costs)
