-- One turn of each loop that puts entries: what held of the first i entries holds of one more.
-- Assumes nothing.
use Prim.Native.Nat.{ℕ, ◌+◌, ◌-◌, ◌*◌, ◌≤◌, ◌<◌}
use mathlib.Core.Path.{◌≡◌, refl, sym, ap, ◌∙◌}
use mathlib.Core.List.{List, [], ◌∷◌, ◌++◌, map, map-map, append-nil}
use native.Mathlib.Omega.{arith}
use lib.ListN.{length, get_or, set, take-append-drop}
use Rattle.lfa.specs.Lists.{count_up, below, flat}
use Rattle.lfa.specs.Network.{at}
use Rattle.lfa.specs.File.{Bytes, check_of}
use Rattle.lfa.specs.FileOf.{word_bytes, pad, block_bytes, slot_bytes, prefix_bytes}
use Rattle.lfa.proofs.Laws.Counting.{length_map_below}
use Rattle.lfa.proofs.Laws.File.WrittenEntry.{link_long, prefix_long}
use Rattle.metric.specs.Column.{slots_in}
use Rattle.network_file.specs.Held.{target_in}
use Rattle.writer.specs.Put.{put_at}
use Rattle.writer.specs.Block.{ZeroBlock, link_held, link_entry_in, prefix_entry_in, first_entries}
use Rattle.writer.proofs.PutLaws.{put_length, put_two_more, put_padded}
use Rattle.writer.proofs.EntryLaws.{flat_long, entry_put, label_put, more_entries, sealed}

-- ---- slots

module _ (routers costs : List ℕ) (slot : ℕ) where
  -- the bytes of slot s
  abbrev slot_held : ℕ → Bytes
  slot_held s = slot_bytes (at (get_or routers (slot + s) 0) (get_or costs (slot + s) 0))

  slots_flat : (s : ℕ) → flat (map slot_bytes (slots_in routers costs slot s)) ≡ flat (map slot_held (below s))
  unfolding slots_in
  slots_flat s = ap flat (map-map slot_bytes (λ s. at (get_or routers (slot + s) 0) (get_or costs (slot + s) 0)) (below s))

  module _ (place : ℕ) (b : Bytes) where
    pub no_slots : b ≡ put_at place (flat (map slot_bytes (slots_in routers costs slot 0))) b
    unfolding put_at slots_in below count_up flat
    no_slots = let e : place + 0 ≡ place = omega arith in rw e (sym (take-append-drop place b))

    pub slot_more : (s : ℕ) (before after : Bytes) → place + 4 * (s + 1) ≤ length b →
        before ≡ put_at place (flat (map slot_bytes (slots_in routers costs slot s))) b →
        after ≡ put_at (place + 4 * s) (get_or routers (slot + s) 0 ∷ 0 ∷ word_bytes (get_or costs (slot + s) 0)) before →
        after ≡ put_at place (flat (map slot_bytes (slots_in routers costs slot (s + 1)))) b
    unfolding slot_bytes word_bytes
    slot_more s before after h e put =
        rw (slots_flat (s + 1)) (put ∙ ap (put_at (place + 4 * s) (slot_held s)) (e ∙ ap (λ (l : Bytes). put_at place l b) (slots_flat s))
        ∙ entry_put slot_held 4 place s b (λ k l. refl) h)

  pub slots_long : (s : ℕ) → length (flat (map slot_bytes (slots_in routers costs slot s))) ≡ 4 * s
  unfolding slot_bytes word_bytes
  slots_long s = ap length (slots_flat s) ∙ flat_long slot_held 4 s (λ k h. refl)

  -- the count and the zero byte are stored, and the slots put after them
  pub prefix_put : (place attached count : ℕ) (b after : Bytes) → count ≡ attached → place + 2 + 4 * attached ≤ length b →
      after ≡ put_at (place + 2) (flat (map slot_bytes (slots_in routers costs slot count))) (set (set b place attached) (place + 1) 0) →
      after ≡ put_at place (attached ∷ 0 ∷ flat (map slot_bytes (slots_in routers costs slot attached))) b
  prefix_put place attached count b after e h put =
      let used = flat (map slot_bytes (slots_in routers costs slot attached)) in
      rw e at put ∙ put_two_more place attached 0 used b (omega (arith, slots_long attached))

-- ---- entries

-- what is as long as it is padded to is not padded
pad_none : (n : ℕ) (b : Bytes) → length b ≡ n → b ≡ pad n b
unfolding pad
pad_none n b e = let z : n - length b ≡ 0 = omega arith in rw z (sym (append-nil b))

module _ (kind entries number : ℕ) (entry : ℕ → Bytes) where
  -- so far a block has its label and its first i entries
  abbrev pub Begun : ℕ → Bytes → Type 0
  Begun i block = (length block ≡ 512) × (block ≡ pad 512 (first_entries kind entries number entry i))

  pub labelled : (zeros block : Bytes) → ZeroBlock zeros → block ≡ put_at 0 (kind ∷ entries ∷ word_bytes number) zeros → Begun 0 block
  unfolding word_bytes
  labelled zeros block z put = (
    ap length put ∙ put_length 0 (kind ∷ entries ∷ word_bytes number) zeros (omega (arith, z.1)) ∙ z.1,
    put ∙ ap (put_at 0 (kind ∷ entries ∷ word_bytes number)) z.0 ∙ label_put kind entries number entry,
  )

  -- an entry is put, all of it but zeros at its end
  pub entered : (size i : ℕ) (used before after : Bytes) → ((k : ℕ) → k < i → length (entry k) ≡ size) → length used ≤ size →
      entry i ≡ pad size used →
      4 + size * (i + 1) ≤ 512 → Begun i before → after ≡ put_at (4 + size * i) used before → Begun (i + 1) after
  entered size i used before after each short is fits begun put =
      let next : size * (i + 1) ≡ size * i + size = omega arith in (
        ap length put ∙ put_length (4 + size * i) used before (omega (arith, begun.0)) ∙ begun.0,
        put ∙ ap (put_at (4 + size * i) used) begun.1 ∙ more_entries kind entries number entry size i used each short is fits,
      )

-- the entry of a link has no zeros at its end that are not put
pub link_entered : (from to out back : List ℕ) (first count number i : ℕ) (before after : Bytes) → i < count → count ≤ 84 →
    Begun 2 count number (link_entry_in from to out back first) i before →
    after ≡ put_at (4 + 6 * i) (link_entry_in from to out back first i) before →
    Begun 2 count number (link_entry_in from to out back first) (i + 1) after
link_entered from to out back first count number i before after h few begun put =
    let entry : ℕ → Bytes = link_entry_in from to out back first in
    let long : (k : ℕ) → length (entry k) ≡ 6 = λ k. link_long (link_held from to out back (first + k)) in
    entered 2 count number entry 6 i (entry i) before after (λ k l. long k) (omega (arith, long i)) (pad_none 6 (entry i) (long i))
    (omega arith) begun put

-- The entry of a prefix is its used part, padded.
module _ (attached routers costs : List ℕ) (first count number : ℕ) where
  abbrev entry : ℕ → Bytes
  entry = prefix_entry_in attached routers costs first

  target_long : (p : ℕ) → length (target_in attached routers costs p) ≡ get_or attached p 0
  unfolding slots_in
  target_long p = length_map_below _ (get_or attached p 0)

  pub prefix_held_long : (i : ℕ) → get_or attached (first + i) 0 ≤ 8 → length (entry i) ≡ 34
  prefix_held_long i few = prefix_long (target_in attached routers costs (first + i)) (omega (arith, target_long (first + i)))

  pub prefix_entered : (i : ℕ) (before after : Bytes) → i < count → count ≤ 14 → ((p : ℕ) → p < first + count → get_or attached p 0 ≤ 8) →
      Begun 3 count number entry i before →
      after
      ≡ put_at (4 + 34 * i) (get_or attached (first + i) 0 ∷ 0 ∷ flat (map slot_bytes (target_in attached routers costs (first + i)))) before →
      Begun 3 count number entry (i + 1) after
  unfolding prefix_bytes
  prefix_entered i before after h most few begun put =
      let p = first + i in
      let used : Bytes = get_or attached p 0 ∷ 0 ∷ flat (map slot_bytes (target_in attached routers costs p)) in
      let long = slots_long routers costs (8 * p) (get_or attached p 0) in
      let is : entry i ≡ pad 34 used = rw (target_long p) in
      entered 3 count number entry 34 i used before after (λ k l. prefix_held_long k (few (first + k) (omega arith)))
      (omega (arith, few p (omega arith))) is (omega arith) begun put

-- ---- the head

-- The label, two fields and two more, each put where the padding starts, and then the check.
pub head_put : (routers links prefixes : ℕ) (zeros labelled counted filled block : Bytes) → ZeroBlock zeros →
    labelled ≡ put_at 0 (1 ∷ 0 ∷ word_bytes 0) zeros → counted ≡ put_at 4 (routers ∷ 0 ∷ word_bytes links) labelled →
    filled ≡ put_at 8 (word_bytes prefixes) counted → block ≡ put_at 510 (word_bytes (check_of filled)) filled →
    block ≡ block_bytes 1 0 0 (routers ∷ 0 ∷ word_bytes links ++ word_bytes prefixes)
unfolding word_bytes
head_put routers links prefixes zeros labelled counted filled block z first second third last =
    let content : Bytes = routers ∷ 0 ∷ word_bytes links ++ word_bytes prefixes in
    let one : labelled ≡ pad 512 (1 ∷ 0 ∷ word_bytes 0) = rw (first, z.0) (put_padded 512 0 [] (1 ∷ 0 ∷ word_bytes 0) refl (omega arith)) in
    let two : counted ≡ pad 512 (1 ∷ 0 ∷ word_bytes 0 ++ (routers ∷ 0 ∷ word_bytes links)) =
    rw (second, one) (put_padded 512 4 (1 ∷ 0 ∷ word_bytes 0) (routers ∷ 0 ∷ word_bytes links) refl (omega arith)) in
    let three : filled ≡ pad 512 (1 ∷ 0 ∷ word_bytes 0 ++ content) =
    rw (third, two) (put_padded 512 8 (1 ∷ 0 ∷ word_bytes 0 ++ (routers ∷ 0 ∷ word_bytes links)) (word_bytes prefixes) refl (omega arith)) in
    rw (last, three) (sealed 1 0 0 content (omega arith))
