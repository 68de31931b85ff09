-- A written entry reads back: a link from its 6 bytes, a prefix from its 34 bytes; and the tests of an entry pass.
-- Assumes nothing.
use Prim.Native.Nat.{ℕ, suc, ◌+◌, ◌-◌, ◌*◌, ◌≤◌, ◌<◌}
use Rattle.std.specs.Prelude.{◌≡◌, drop}
use Rattle.std.proofs.Math.Path.{refl, sym, ap, ap₂}
use Rattle.std.proofs.Common.{◌∙◌}
use Rattle.std.proofs.Math.Bool.{true, not}
use mathlib.Core.List.Memᴰ
use mathlib.Core.List.{[], ◌∷◌, map, Memᴰ}
use native.Mathlib.Omega.{arith}
use Rattle.std.proofs.Math.Dec.{eqb}
use Rattle.std.proofs.Math.ListN.{get_or, length, replicate, length-map}
use Rattle.std.proofs.Math.Seq.{drop_at}
use borrow.Author.Tests.{lt-ltb, le-leb, eq-eqb, ne_eqb}
use Rattle.lfa.specs.Lists.{flat, every_below}
use Rattle.lfa.specs.Network.{Link, link, Attachment, at, Target}
use Rattle.lfa.specs.File.{Bytes, byte_at, word_at, part_of, all_zero, link_in, sound_link, attachments, slot_router, slot, prefix_in, slot_good, sound_prefix, slot_new}
use Rattle.lfa.specs.FileOf.{word_bytes, pad, link_bytes, slot_bytes, prefix_bytes, LinkWithin, PrefixWithin}
use Rattle.lfa.proofs.Laws.File.Passes.{AreBytes}
use Rattle.lfa.proofs.Laws.Test.{and_make, not_of}
use Rattle.lfa.proofs.Laws.List.{every_make}
use Rattle.lfa.proofs.Laws.File.Bytes.{zeros_zero}
use Rattle.lfa.proofs.Laws.Chunks.{EachLong, element_mapped, made_again, length_flat, part_flat}
use Rattle.lfa.proofs.Laws.List.{get_d_in}
use Rattle.lfa.proofs.Laws.File.Parts.{byte_part, word_part}
use Rattle.lfa.proofs.Laws.File.Bytes.{word_back, cons_bytes, append_bytes, word_bytes_lem, pad_bytes, flat_bytes}
use Rattle.lfa.proofs.Laws.File.WrittenBlock.{pad_long}

-- ---- a link

pub link_long : (l : Link) → length (link_bytes l) ≡ 6
unfolding link_bytes word_bytes
link_long (link a b ab ba) = refl

pub link_back : (l : Link) → link_in (link_bytes l) ≡ l
unfolding link_in link_bytes word_at byte_at word_bytes
link_back (link a b ab ba) = ap₂ (link a b) (word_back ab) (word_back ba)

pub link_bytes_lem : (n a b ab ba : ℕ) → n ≤ 64 → LinkWithin n a b ab ba → AreBytes (link_bytes (link a b ab ba))
unfolding link_bytes
link_bytes_lem n a b ab ba few w =
    cons_bytes a _ (omega arith) (cons_bytes b _ (omega arith) (append_bytes (word_bytes ab) (word_bytes ba) (word_bytes_lem ab w.out_most) (word_bytes_lem ba w.back_most)))

-- row 6's test of a link
pub link_sound : (n a b ab ba : ℕ) → LinkWithin n a b ab ba → sound_link n (link a b ab ba) ≡ true
unfolding sound_link
link_sound n a b ab ba w = rw (lt-ltb a n w.a_in, lt-ltb b n w.b_in, ne_eqb a b w.two, le-leb 1 ab w.out_some, le-leb 1 ba w.back_some)

-- ---- a prefix

slot_long : (a : Attachment) → length (slot_bytes a) ≡ 4
unfolding slot_bytes word_bytes
slot_long (at a c) = refl

slots_long : (to : Target) → EachLong 4 (map slot_bytes to)
slots_long to i h = let k : i < length to = omega (arith, length-map to slot_bytes) in ap length (element_mapped slot_bytes to i (at 0 0) [] k) ∙ slot_long (get_or to i (at 0 0))

-- what a slot that holds an attachment's 4 bytes is read as
module _ (entry : Bytes) (s : ℕ) where
  read_slot : (a : Attachment) → part_of entry (2 + 4 * s) 4 ≡ slot_bytes a → slot entry s ≡ a
  unfolding slot slot_router slot_bytes word_at byte_at word_bytes
  read_slot (at r c) e =
      let z : 2 + 4 * s + 0 ≡ 2 + 4 * s = omega arith in
      let t : 2 + 4 * s + 2 ≡ 4 + 4 * s = omega arith in
      let first : byte_at entry (2 + 4 * s) ≡ r = rw z at (sym (byte_part entry (2 + 4 * s) 4 0 (omega arith))) ∙ ap (λ (b : Bytes). byte_at b 0) e in
      let second : word_at entry (4 + 4 * s) ≡ c = rw t at (sym (word_part entry (2 + 4 * s) 4 2 (omega arith))) ∙ ap (λ (b : Bytes). word_at b 2) e ∙ word_back c in
      ap₂ at first second

  read_zero : (a : Attachment) → part_of entry (2 + 4 * s) 4 ≡ slot_bytes a → byte_at entry (3 + 4 * s) ≡ 0
  unfolding slot_bytes byte_at
  read_zero (at r c) e =
      let t : 2 + 4 * s + 1 ≡ 3 + 4 * s = omega arith in
      rw t at (sym (byte_part entry (2 + 4 * s) 4 1 (omega arith))) ∙ ap (λ (b : Bytes). byte_at b 1) e

module _ (to : Target) (few : length to ≤ 8) where
  flat_long : length (flat (map slot_bytes to)) ≡ 4 * length to
  flat_long = length_flat 4 (map slot_bytes to) (slots_long to) ∙ ap (λ (n : ℕ). 4 * n) (length-map to slot_bytes)

  pub prefix_long : length (prefix_bytes to) ≡ 34
  unfolding prefix_bytes
  prefix_long = pad_long 34 (length to ∷ 0 ∷ flat (map slot_bytes to)) (omega (arith, flat_long))

  pub prefix_count : attachments (prefix_bytes to) ≡ length to
  unfolding attachments byte_at prefix_bytes pad
  prefix_count = refl

  prefix_second : byte_at (prefix_bytes to) 1 ≡ 0
  unfolding byte_at prefix_bytes pad
  prefix_second = refl

  -- the 4 bytes of slot s
  slot_part : (s : ℕ) → s < length to → part_of (prefix_bytes to) (2 + 4 * s) 4 ≡ slot_bytes (get_or to s (at 0 0))
  unfolding part_of prefix_bytes pad
  slot_part s h =
      let t : 2 + 4 * s ≡ suc (suc (4 * s)) = omega arith in
      let k : s < length (map slot_bytes to) = omega (arith, length-map to slot_bytes) in
      let unused : Bytes = replicate (34 - length (length to ∷ 0 ∷ flat (map slot_bytes to))) 0 in
      rw t (part_flat 4 (map slot_bytes to) unused (slots_long to) s k ∙ element_mapped slot_bytes to s (at 0 0) [] h)

  slot_back : (s : ℕ) → s < length to → slot (prefix_bytes to) s ≡ get_or to s (at 0 0)
  slot_back s h = read_slot (prefix_bytes to) s (get_or to s (at 0 0)) (slot_part s h)

  -- a prefix reads back: as many attachments as were written, and slot s holds attachment s
  pub prefix_back : prefix_in (prefix_bytes to) ≡ to
  unfolding prefix_in
  prefix_back = rw prefix_count (made_again (slot (prefix_bytes to)) to (at 0 0) slot_back)

  unused_zero_lem : all_zero (drop (2 + 4 * length to) (prefix_bytes to)) ≡ true
  unfolding prefix_bytes pad
  unused_zero_lem =
      let t : 2 + 4 * length to ≡ suc (suc (4 * length to)) = omega arith in
      let left = 34 - length (length to ∷ 0 ∷ flat (map slot_bytes to)) in
      rw (t, drop_at (flat (map slot_bytes to)) (replicate left 0) (4 * length to) flat_long) (zeros_zero left)

module _ (n : ℕ) (to : Target) (within : PrefixWithin n to) where
  -- attachment s, its router and its cost
  slot_within : (s r c : ℕ) → s < length to → get_or to s (at 0 0) ≡ at r c → (r < n) × (c ≤ 65535)
  slot_within s r c h e = let m : Memᴰ (at r c) to = Memᴰ.cast (sym e) (get_d_in to s (at 0 0) h) in (within.router_in m, within.cost_most m)

  slot_is : (s : ℕ) → s < length to → get_or to s (at 0 0) ≡ at (slot_router (prefix_bytes to) s) (word_at (prefix_bytes to) (4 + 4 * s))
  unfolding slot
  slot_is s h = sym (slot_back to within.few s h)

  slot_good_lem : (s : ℕ) → s < length to → slot_good n (prefix_bytes to) s ≡ true
  unfolding slot_good
  slot_good_lem s h =
      let zero_byte = read_zero (prefix_bytes to) s (get_or to s (at 0 0)) (slot_part to within.few s h) in
      and_make _ _ (lt-ltb _ _ (slot_within s _ _ h (slot_is s h)).0) (eq-eqb _ _ zero_byte)

  -- Row 8's test of a prefix: the count reads back, each used slot holds a router of the network and a zero byte, and the rest is padding.
  pub prefix_sound : sound_prefix n (prefix_bytes to) ≡ true
  unfolding sound_prefix
  prefix_sound =
      let count = prefix_count to within.few in
      let second : eqb (byte_at (prefix_bytes to) 1) 0 ≡ true = eq-eqb _ 0 (prefix_second to within.few) in
      let used = every_make (slot_good n (prefix_bytes to)) (length to) slot_good_lem in
      rw (count, le-leb 1 (length to) within.some, le-leb (length to) 8 within.few, second, used) (unused_zero_lem to within.few)

  slot_new_lem : (s : ℕ) → s < length to → slot_new (prefix_bytes to) s ≡ true
  unfolding slot_new
  slot_new_lem s h =
      let here = slot_router (prefix_bytes to) s in
      every_make (λ j. not (eqb here (slot_router (prefix_bytes to) j))) s (λ j k.
      not_of _ (ne_eqb here (slot_router (prefix_bytes to) j) (λ e.
      within.once j s here _ _ k h (slot_is j (omega arith) ∙ ap (λ (r : ℕ). at r (word_at (prefix_bytes to) (4 + 4 * j))) (sym e)) (slot_is s h))))

  -- row 9's test of a prefix
  pub prefix_new : every_below (slot_new (prefix_bytes to)) (attachments (prefix_bytes to)) ≡ true
  prefix_new = rw (prefix_count to within.few) (every_make (slot_new (prefix_bytes to)) (length to) slot_new_lem)

  slot_bytes_lem : n ≤ 64 → (s : ℕ) → s < length to → AreBytes (slot_bytes (get_or to s (at 0 0)))
  unfolding slot_bytes
  slot_bytes_lem small s h = go (get_or to s (at 0 0)) refl
    where
      go : (a : Attachment) → get_or to s (at 0 0) ≡ a → AreBytes (slot_bytes a)
      go (at r c) e = let w = slot_within s r c h e in cons_bytes r _ (omega arith) (cons_bytes 0 _ (omega arith) (word_bytes_lem c w.1))

  pub prefix_bytes_lem : n ≤ 64 → AreBytes (prefix_bytes to)
  unfolding prefix_bytes
  prefix_bytes_lem small =
      pad_bytes 34 _ (cons_bytes (length to) _ (omega (arith, within.few)) (cons_bytes 0 _ (omega arith) (flat_bytes (map slot_bytes to) each)))
    where
      each : (i : ℕ) → i < length (map slot_bytes to) → AreBytes (get_or (map slot_bytes to) i [])
      each i h = let k : i < length to = omega (arith, length-map to slot_bytes) in rw (element_mapped slot_bytes to i (at 0 0) [] k) (slot_bytes_lem small i k)
