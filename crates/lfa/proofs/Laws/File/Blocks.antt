-- What is written of an entry or of a block that the rows pass is the bytes that stood there.
-- Assumes nothing.
use Rattle.std.specs.Prelude.{ℕ, ◌+◌, ◌-◌, ◌*◌, ◌%◌, ◌≤◌, ◌<◌, min, ◌≡◌, true, List, ◌∷◌, ◌++◌, map, take, drop}
use Rattle.std.proofs.Common.{sym, ◌∙◌, arith, zero-add}
use Rattle.std.proofs.Math.Path.{ap}
use Rattle.std.proofs.lemmas.Simd.{map-map}
use Rattle.std.proofs.Math.ListN.{length, length-map}
use Rattle.lfa.specs.Lists.{below, flat}
use Rattle.lfa.specs.File.{Bytes, byte_at, word_at, part_of, all_zero, check_of, link_in, attachments, slot_router, slot, prefix_in, entries_in, slot_good, sound_prefix}
use Rattle.lfa.specs.FileOf.{word_bytes, pad, block_bytes, link_bytes, slot_bytes, prefix_bytes, entries_block}
use Rattle.lfa.proofs.Laws.File.Passes.{AreBytes}
use Rattle.lfa.proofs.Laws.List.{every_gives}
use Rattle.lfa.proofs.Laws.Counting.{length_map_below, map_below_same, take_drop_map_below}
use Rattle.lfa.proofs.Laws.File.Parts.{part_whole, parts_join, part_rest, part_cons, flat_parts, padded, word_written, sum_of_taken}
use Rattle.lfa.proofs.Laws.File.RowFacts.{LaterFacts, PrefixFacts, prefix_facts, slot_facts, prefix_length}

-- ---- entries

-- two bytes and a field
pub two_and_word : (b : Bytes) (k : ℕ) → AreBytes b → k + 4 ≤ length b → byte_at b k ∷ byte_at b (k + 1) ∷ word_bytes (word_at b (k + 2)) ≡ part_of b k 4
two_and_word b k h f =
    let e : k + 1 + 1 ≡ k + 2 = omega arith in
    rw (word_written b (k + 2) h (omega arith), part_cons b k 3 (omega arith), part_cons b (k + 1) 2 (omega arith), e)

-- The 6 bytes of a link are written as they stood.
pub link_written : (e : Bytes) → AreBytes e → length e ≡ 6 → link_bytes (link_in e) ≡ e
unfolding link_bytes link_in
link_written e h l =
    ap (λ (r : Bytes). r ++ word_bytes (word_at e 4)) (two_and_word e 0 h (omega arith))
    ∙ ap (λ (r : Bytes). part_of e 0 4 ++ r) (word_written e 4 h (omega arith))
    ∙ parts_join e 0 4 2
    ∙ part_whole e 6 l

-- a used slot, whose second byte is zero
slot_written : (n : ℕ) (e : Bytes) (s : ℕ) → AreBytes e → 6 + 4 * s ≤ length e → slot_good n e s ≡ true → slot_bytes (slot e s) ≡ part_of e (2 + 4 * s) 4
unfolding slot_bytes slot slot_router
slot_written n e s h f g =
    let z : byte_at e (3 + 4 * s) ≡ 0 = (slot_facts n e s g).1 in
    let p : 3 + 4 * s ≡ 2 + 4 * s + 1 = omega arith in
    let q : 4 + 4 * s ≡ 2 + 4 * s + 2 = omega arith in
    rw (← z, p, q) (two_and_word e (2 + 4 * s) h (omega arith))

slots_written : (n : ℕ) (e : Bytes) → AreBytes e → length e ≡ 34 → PrefixFacts n e → flat (map slot_bytes (prefix_in e)) ≡ part_of e 2 (4 * attachments e)
unfolding prefix_in
slots_written n e h l f =
    ap flat (map-map slot_bytes (slot e) (below (attachments e))
    ∙ map_below_same (λ s. slot_bytes (slot e s)) (λ s. part_of e (2 + 4 * s) 4) (attachments e) (λ s k.
    slot_written n e s h (omega arith) (every_gives (slot_good n e) (attachments e) f.slots s k)))
    ∙ flat_parts e 2 4 (attachments e)

-- the count, the zero byte and the used slots
used_written : (n : ℕ) (e : Bytes) → AreBytes e → length e ≡ 34 → PrefixFacts n e →
    length (prefix_in e) ∷ 0 ∷ flat (map slot_bytes (prefix_in e)) ≡ part_of e 0 (2 + 4 * attachments e)
unfolding attachments
used_written n e h l f =
    let p : 2 + 4 * attachments e ≡ 4 * attachments e + 1 + 1 = omega arith in
    rw (prefix_length e, slots_written n e h l f, p, part_cons e 0 (4 * attachments e + 1) (omega arith), part_cons e 1 (4 * attachments e) (omega arith), f.zero_byte)

-- The 34 bytes of a prefix that row 8 passes are written as they stood: the used part, padded with zeros.
pub prefix_written : (n : ℕ) (e : Bytes) → AreBytes e → length e ≡ 34 → sound_prefix n e ≡ true → prefix_bytes (prefix_in e) ≡ e
unfolding prefix_bytes
prefix_written n e h l g =
    let f = prefix_facts n e g in
    let few : attachments e ≤ 8 = f.few in
    let used = 2 + 4 * attachments e in
    let z : all_zero (part_of e (0 + used) (34 - used)) ≡ true = rw (zero-add, part_rest e used 34 l) f.unused_zero_lem in
    rw (used_written n e h l f, ← padded e 0 used 34 (omega arith) (omega arith) z) (part_whole e 34 l)

-- ---- blocks

-- a block up to its check
pub front_written : (e content : Bytes) → AreBytes e → length e ≡ 512 → part_of e 4 506 ≡ pad 506 content →
    byte_at e 0 ∷ byte_at e 1 ∷ word_bytes (word_at e 2) ++ pad 506 content ≡ part_of e 0 510
front_written e content h l c =
    ap (λ (r : Bytes). r ++ pad 506 content) (two_and_word e 0 h (omega arith)) ∙ ap (λ (r : Bytes). part_of e 0 4 ++ r) (sym c) ∙ parts_join e 0 4 506

-- the check looks at the first 510 bytes only
check_of_front : (e : Bytes) → check_of (part_of e 0 510) ≡ check_of e
unfolding check_of part_of
check_of_front e = ap (λ n. n % 65536) (sum_of_taken 255 e)

-- A block with this kind, these entries, this number and this content, and the right check, is the one that is written of them:
-- up to offset 510 the two agree, and the check is the same since it looks no further.
pub block_written : (e content : Bytes) (kind entries number : ℕ) → AreBytes e → length e ≡ 512 → check_of e ≡ word_at e 510 →
    byte_at e 0 ≡ kind → byte_at e 1 ≡ entries → word_at e 2 ≡ number → part_of e 4 506 ≡ pad 506 content → block_bytes kind entries number content ≡ e
unfolding block_bytes
block_written e content kind entries number h l s k n i c =
    rw (← k, ← n, ← i)
    (ap (λ (r : Bytes). r ++ word_bytes (check_of r)) (front_written e content h l c)
    ∙ rw (check_of_front, s, word_written e 510 h (omega arith), parts_join e 0 510 2) (part_whole e 512 l))

-- the fields of the head
pub head_fields : (e : Bytes) (routers other links prefixes : ℕ) → AreBytes e → length e ≡ 512 →
    byte_at e 4 ≡ routers → byte_at e 5 ≡ other → word_at e 6 ≡ links → word_at e 8 ≡ prefixes →
    routers ∷ other ∷ word_bytes links ++ word_bytes prefixes ≡ part_of e 4 6
head_fields e routers other links prefixes h l r o k p =
    rw (← r, ← o, ← k, ← p)
    (ap (λ (r : Bytes). r ++ word_bytes (word_at e 8)) (two_and_word e 4 h (omega arith))
    ∙ ap (λ (r : Bytes). part_of e 4 4 ++ r) (word_written e 8 h (omega arith))
    ∙ parts_join e 4 4 2)

-- A block that rows 2 and 5 pass is the block that is written of its entries.
pub later_written : (e : Bytes) (kind number n size : ℕ) (entries : List Bytes) → AreBytes e → length e ≡ 512 → check_of e ≡ word_at e 510 →
    LaterFacts e number kind n size → size * n ≤ 506 → length entries ≡ n → flat entries ≡ part_of e 4 (size * n) → entries_block kind number entries ≡ e
unfolding entries_block
later_written e kind number n size entries h l s f fits count same =
    rw (count, same)
    (block_written e (part_of e 4 (size * n)) kind n number h l s f.kind_right f.entries_right f.number_right (padded e 4 (size * n) 506 fits (omega arith) f.tail_zero))

-- the entries of block j of a kind, `each` to a block, each as it stood
module _ {A : Type 0} (f : ℕ → A) (write : A → Bytes) (each total j : ℕ) where
  pub entries_length : length (map write (take each (drop (each * j) (map f (below total))))) ≡ entries_in each total j
  unfolding entries_in
  entries_length = length-map (take each (drop (each * j) (map f (below total)))) write ∙ ap length (take_drop_map_below f each (each * j) total)
      ∙ length_map_below _ (min each (total - each * j))

  pub entries_flat : (size : ℕ) (e : Bytes) → ((i : ℕ) → i < entries_in each total j → write (f (each * j + i)) ≡ part_of e (4 + size * i) size) →
      flat (map write (take each (drop (each * j) (map f (below total))))) ≡ part_of e 4 (size * entries_in each total j)
  unfolding entries_in
  entries_flat size e same =
      ap (λ l. flat (map write l)) (take_drop_map_below f each (each * j) total)
      ∙ ap flat (map-map write (λ i. f (each * j + i)) (below (min each (total - each * j)))
      ∙ map_below_same (λ i. write (f (each * j + i))) (λ i. part_of e (4 + size * i) size) (min each (total - each * j)) same)
      ∙ flat_parts e 4 size (min each (total - each * j))
