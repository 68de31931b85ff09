-- A file to which none of rows 1 to 9 applies holds a network within the limits.
-- Assumes nothing.
use Rattle.std.specs.Prelude.{ℕ, ◌+◌, ◌*◌, ◌/◌, ◌%◌, ◌≤◌, ◌<◌, ◌≡◌, true, get_or, length}
use Rattle.std.proofs.Common.{sym, ◌∙◌, arith}
use mathlib.Core.List.{Memᴰ}
use Rattle.std.proofs.lemmas.Bool.{eqb-false}
use Rattle.lfa.specs.Lists.{every_below}
use Rattle.lfa.specs.Network.{link, at, Target}
use Rattle.lfa.specs.File.{Bytes, word_at, routers_of, links_of, prefixes_of, link_entry, link_in, prefix_entry, attachments, slot_router, slot, prefix_in, link_of, prefix_of, network_of}
use Rattle.lfa.specs.File.{sound_link, link_good, slot_good, sound_prefix, prefix_good, slot_new, routers_new}
use Rattle.lfa.specs.FileOf.{JoinSame, LinkWithin, PrefixWithin, WithinLimits}
use Rattle.lfa.proofs.Laws.File.Passes.{AreBytes, Passes}
use Rattle.lfa.proofs.Laws.List.{every_gives}
use Rattle.lfa.proofs.Laws.File.Parts.{part_bytes, word_small}
use Rattle.lfa.proofs.Laws.File.RowFacts.{head_facts, link_facts, not_parallel, prefix_facts, slot_facts, prefix_length, routers_differ}
use Rattle.lfa.proofs.Laws.Counting.{length_map_below, map_below_gives, map_below_at}

-- ---- rows 6 and 7, the links

-- a cost in the file has 16 bits
link_costs : (b : Bytes) → AreBytes b → (k u v uv vu : ℕ) → link u v uv vu ≡ link_of b k → (uv ≤ 65535) × (vu ≤ 65535)
unfolding link_of link_in link_entry
link_costs b bytes k u v uv vu e =
    let en = part_bytes b (512 * (1 + k / 84) + 4 + 6 * (k % 84)) 6 bytes in
    let p : uv ≡ word_at (link_entry b k) 2 = cc in
    let p' : vu ≡ word_at (link_entry b k) 4 = cc in
    (omega (arith, word_small (link_entry b k) 2 en), omega (arith, word_small (link_entry b k) 4 en))

link_within : (b : Bytes) → AreBytes b → (n k u v uv vu : ℕ) → link u v uv vu ≡ link_of b k → sound_link n (link_of b k) ≡ true → LinkWithin n u v uv vu
link_within b bytes n k u v uv vu e s =
    let g = link_facts n u v uv vu (rw e s) in
    let c = link_costs b bytes k u v uv vu e in
    record { a_in = g.a_in; b_in = g.b_in; two = eqb-false u v g.two; out_some = g.out_some; back_some = g.back_some; out_most = c.0; back_most = c.1 }

-- ---- rows 8 and 9, the prefixes

-- an attachment is that of a used slot
in_slot : (entry : Bytes) (a c : ℕ) → Memᴰ (at a c) (prefix_in entry) →
    (s : ℕ) × (s < attachments entry) × (a ≡ slot_router entry s) × (c ≡ word_at entry (4 + 4 * s))
unfolding prefix_in slot
in_slot entry a c m = let r = map_below_gives (slot entry) (attachments entry) m in (r.0, r.1, (cc r.2), (cc r.2))

router_of_slot : (entry : Bytes) (s a c : ℕ) → s < attachments entry → get_or (prefix_in entry) s (at 0 0) ≡ at a c → slot_router entry s ≡ a
unfolding prefix_in slot
router_of_slot entry s a c h e = cc (map_below_at (slot entry) (at 0 0) (attachments entry) s h)

prefix_within : (n : ℕ) (entry : Bytes) → AreBytes entry → sound_prefix n entry ≡ true → every_below (slot_new entry) (attachments entry) ≡ true →
    PrefixWithin n (prefix_in entry)
prefix_within n entry bytes e new =
    let f = prefix_facts n entry e in
    let l = prefix_length entry in
    record {
      some = omega arith;
      few = omega arith;
      router_in = λ {a} {c} m. let r = in_slot entry a c m in
          let g = slot_facts n entry r.0 (every_gives (slot_good n entry) (attachments entry) f.slots r.0 r.1) in
          rw r.2 g.0;
      cost_most = λ {a} {c} m. let r = in_slot entry a c m in rw r.3 (word_small entry (4 + 4 * r.0) bytes);
      once = λ i j a c k h hj p q.
          routers_differ entry i j new h (omega arith) (router_of_slot entry j a k (omega arith) q ∙ sym (router_of_slot entry i a c (omega arith) p));
    }

-- ---- the network

module _ (b : Bytes) (bytes : AreBytes b) (p : Passes b) where
  pub links_length : length (network_of b).links ≡ links_of b
  unfolding network_of
  links_length = length_map_below (link_of b) (links_of b)

  pub prefixes_length : length (network_of b).prefixes ≡ prefixes_of b
  unfolding network_of
  prefixes_length = length_map_below (prefix_of b) (prefixes_of b)

  nth_link : (k : ℕ) → k < links_of b → get_or (network_of b).links k (link 0 0 0 0) ≡ link_of b k
  unfolding network_of
  nth_link k h = map_below_at (link_of b) (link 0 0 0 0) (links_of b) k h

  links_within : {u v uv vu : ℕ} → Memᴰ (link u v uv vu) (network_of b).links → LinkWithin (routers_of b) u v uv vu
  unfolding network_of link_good
  links_within {u} {v} {uv} {vu} m =
      let r = map_below_gives (link_of b) (links_of b) m in
      link_within b bytes (routers_of b) r.0 u v uv vu r.2 (p.row6 r.0 r.1)

  none_parallel : (i j : ℕ) → i < j → j < length (network_of b).links → JoinSame (get_or (network_of b).links j (link 0 0 0 0)) (get_or (network_of b).links i (link 0 0 0 0)) → ⊥
  none_parallel i j h hj =
      let l = links_length in
      let k : j < links_of b = omega arith in
      rw (nth_link j k, nth_link i (omega arith)) (not_parallel b j i (p.row7 j k) h)

  prefixes_within : {to : Target} → Memᴰ to (network_of b).prefixes → PrefixWithin (routers_of b) to
  unfolding network_of prefix_of prefix_entry prefix_good routers_new
  prefixes_within {to} m =
      let r = map_below_gives (prefix_of b) (prefixes_of b) m in
      rw r.2 (prefix_within (routers_of b) (prefix_entry b r.0) (part_bytes b _ 34 bytes) (p.row8 r.0 r.1) (p.row9 r.0 r.1))

  -- The network that a file holds is within the limits, if no row applies to the file.
  -- Each field of the limits is what rows 3 and 6 to 9 say of the file, said of the network; the costs have 16 bits because the file is made of bytes.
  pub passes_within : WithinLimits (network_of b)
  unfolding network_of
  passes_within =
      let h = head_facts b p.row3 in
      record {
        some_routers = h.some_routers;
        few_routers = h.few_routers;
        few_links = omega (arith, h.few_links, links_length);
        few_prefixes = omega (arith, h.few_prefixes, prefixes_length);
        link_within = λ m. links_within m;
        no_parallel = none_parallel;
        prefix_within = λ m. prefixes_within m;
      }
