-- Rows 8 and 9 at one prefix: what the code finds in its entry is what the row says.
-- Assumes nothing.
use Prim.Native.Nat.{ℕ, zero, suc, ◌+◌, ◌-◌, ◌*◌, ◌≤◌, ◌<◌}
use mathlib.Core.Path.{◌≡◌, refl, sym, ap, ◌∙◌}
use mathlib.Core.Bool.{Bool, true, false, not, ◌&&◌}
use mathlib.Core.Logic.{◌⊎◌, inl, inr}
use mathlib.Core.List.{List}
use native.Mathlib.Omega.{arith}
use native.Mathlib.Numerals.{add-one}
use lib.Dec.{eqb, ltb, leb}
use lib.ListN.{length, get_or, set, drop, replicate, length-set, length-replicate, get_or-replicate}
use borrow.Author.Tests.{leb-true, not-true, not-false}
use Rattle.lfa.specs.Lists.{every_below}
use Rattle.lfa.specs.File.{Bytes, byte_at, word_at, all_zero, routers_of, prefix_entry, attachments, slot_router, slot_good, sound_prefix, prefix_good, slot_new, routers_new}
use Rattle.lfa.proofs.Laws.Test.{decide}
use Rattle.lfa.proofs.Laws.List.{every_gives}
use Rattle.lfa.proofs.Laws.File.RowFacts.{prefix_facts, slot_facts}
use Rattle.block.specs.Judged.{Sized}
use Rattle.network_file.specs.Entry.{unused_zero, Slots}
use Rattle.network_file.proofs.SlotLaws.{eight_tested}
use Rattle.network_file.proofs.TableLaws.{mark}

-- ---- row 8

join : (x a b : Bool) → (x && a && b) ≡ (x && (a && b))
join true a b = refl
join false a b = refl

many : (p r a b : Bool) → (p && false && r && a && b) ≡ false
many true r a b = refl
many false r a b = refl

-- The code's test of an entry that says `count` attachments is the row's: where more than eight are said, neither passes.
pub entry_tested : (n : ℕ) (e : Bytes) (count : ℕ) → count ≡ get_or e 0 0 → length e ≡ 34 → 1 ≤ n → n ≤ 64 →
    (leb 1 count && leb count 8 && eqb (get_or e 1 0) 0 && every_below (λ s. ltb (word_at e (2 + 4 * s) + (65536 - n)) 65536) 8 && every_below (unused_zero e count) 8) ≡ sound_prefix n e
unfolding sound_prefix attachments byte_at
entry_tested n e count says long some few = rw (← says) (go (decide (leb count 8)))
  where
    below_n : ℕ → Bool
    below_n s = ltb (word_at e (2 + 4 * s) + (65536 - n)) 65536

    go : (leb count 8 ≡ true) ⊎ (leb count 8 ≡ false) →
        (leb 1 count && leb count 8 && eqb (get_or e 1 0) 0 && every_below below_n 8 && every_below (unused_zero e count) 8)
        ≡ (leb 1 count && leb count 8 && eqb (get_or e 1 0) 0 && every_below (slot_good n e) count && all_zero (drop (2 + 4 * count) e))
    go (inl t) =
        let head = leb 1 count && leb count 8 && eqb (get_or e 1 0) 0 in
        join head _ _ ∙ ap (λ (x : Bool). head && x) (eight_tested n e count long (leb-true count 8 t) some few) ∙ sym (join head _ _)
    go (inr f) = rw f (many (leb 1 count) (eqb (get_or e 1 0) 0) _ _ ∙ sym (many (leb 1 count) (eqb (get_or e 1 0) 0) _ _))

-- the test of prefix p, done on its entry
pub prefix_tested : (b e : Bytes) (routers p : ℕ) {r : Bool} → routers ≡ routers_of b → e ≡ prefix_entry b p → r ≡ sound_prefix routers e → prefix_good b p ≡ r
unfolding prefix_good
prefix_tested b e routers p n is q = rw (← n, ← is) (sym q)

-- ---- row 9: the table of the routers named

-- the table after s slots: true at each router that one of them names
unfoldable pub named_by : Bytes → ℕ → List Bool
named_by e zero = replicate 64 false
named_by e (suc s) = set (named_by e s) (get_or e (2 + 4 * s) 0) true

pub named_more : (e : Bytes) (s : ℕ) → set (named_by e s) (get_or e (2 + 4 * s) 0) true ≡ named_by e (s + 1)
unfolding named_by
named_more e s = rw (add-one s)

named_length : (e : Bytes) (s : ℕ) → length (named_by e s) ≡ 64
unfolding named_by
named_length e zero = length-replicate 64 false
named_length e (suc s) = simp length-set (named_length e s)

-- Cell r of the table is true exactly when one of the first s slots names router r: slot s sets the cell of its router and leaves the
-- others (`mark`).
named_cell : (e : Bytes) (r s : ℕ) → r < 64 → ((j : ℕ) → j < s → get_or e (2 + 4 * j) 0 < 64) →
    get_or (named_by e s) r false ≡ not (every_below (λ j. not (eqb r (slot_router e j))) s)
unfolding named_by every_below slot_router byte_at
named_cell e r zero h small = get_or-replicate 64 r false false h
named_cell e r (suc s) h small =
    mark (named_by e s) (get_or e (2 + 4 * s) 0) r (every_below (λ j. not (eqb r (slot_router e j))) s) (omega (arith, named_length e s, small s (omega arith)))
    (named_cell e r s h (λ j l. small j (omega arith)))

-- What a look at the table tells of slot s: whether its router is new, that is, named by none of the slots before it.
module _ (e : Bytes) (s : ℕ) (table : List Bool) {r : ℕ} (slots : Slots e) (h : s < get_or e 0 0) (is : table ≡ named_by e s) (names : r ≡ get_or e (2 + 4 * s) 0) where
  seen : get_or table r false ≡ not (slot_new e s)
  unfolding slot_new slot_router byte_at
  seen = rw (is, names) (named_cell e (get_or e (2 + 4 * s) 0) s (slots.routers_below s h) (λ j l. slots.routers_below j (omega arith)))

  pub not_new : get_or table r false ≡ true → slot_new e s ≡ false
  not_new q = not-true _ (sym seen ∙ q)

  pub is_new : get_or table r false ≡ false → slot_new e s ≡ true
  is_new q = not-false _ (sym seen ∙ q)

-- an entry that row 8 passes, as row 9 reads it
slots_of_lem : (n : ℕ) (e : Bytes) → length e ≡ 34 → n ≤ 64 → sound_prefix n e ≡ true → Slots e
unfolding attachments slot_router byte_at
slots_of_lem n e l h g =
    let f = prefix_facts n e g in
    record {
      long = l;
      few = f.few;
      routers_below = λ s k. omega (arith, (slot_facts n e s (every_gives (slot_good n e) (attachments e) f.slots s k)).0);
    }

pub slots_there : (b e : Bytes) (p : ℕ) → Sized b → e ≡ prefix_entry b p → length e ≡ 34 → prefix_good b p ≡ true → Slots e
unfolding prefix_good
slots_there b e p s is l g = slots_of_lem (routers_of b) e l s.few_routers (rw is g)

-- the test of prefix p, done on its entry
pub routers_tested : (b e : Bytes) (p : ℕ) {r : Bool} → e ≡ prefix_entry b p → r ≡ every_below (slot_new e) (attachments e) → routers_new b p ≡ r
unfolding routers_new
routers_tested b e p is q = rw (← is) (sym q)
