-- Accepted files and networks within the limits are the same thing: what is written is accepted and reads back as it was, an
-- accepted file is what its network is written as, and its network is within the limits.
-- Assumes nothing.
use Rattle.std.specs.Prelude.{ℕ, ◌≤◌, ◌<◌, ◌≡◌, refl, false, [], get_or, length}
use Rattle.std.proofs.Math.Option.{Option, none, some}
use Rattle.std.proofs.Common.{lt-ltb, le-ltb}
use Rattle.lfa.specs.Network.{link, Network, arcs}
use Rattle.lfa.specs.File.{Bytes, byte_at, links_of, prefixes_of, link_entry, prefix_entry, network_of}
use Rattle.lfa.specs.FileOf.{file_of, link_bytes, prefix_bytes, WithinLimits}
use Rattle.lfa.specs.Distance.{LeastCosts, distances, distance_in}
use Rattle.lfa.specs.Space.{protected}
use Rattle.lfa.specs.Refusal.{FileRow, Decided, file_refusal, Accepted}
use Rattle.lfa.specs.Answer.{network_loaded, part_if, link_part, prefix_part}
use Rattle.lfa.proofs.Laws.List.{get_d_in}
use Rattle.lfa.specs.Sound.{Descends, level, Sound, Named}
use Rattle.lfa.proofs.Laws.Bound.{Capped}
use Rattle.lfa.proofs.Laws.Network.{limits_links, limits_descend, limits_sound, limits_distances, limits_named}
use Rattle.lfa.proofs.Laws.FileRows.{accepted_passes_rows, accepted_passes, passes_accepted}
use Rattle.lfa.proofs.Laws.File.Passes.{AreBytes}
use Rattle.lfa.proofs.Laws.File.Within.{links_length, prefixes_length, passes_within}
use Rattle.lfa.proofs.Laws.File.ReadBack.{passes_written}
use Rattle.lfa.proofs.Laws.File.WrittenFile.{limits_few, link_entry_back, prefix_entry_back}
use Rattle.lfa.proofs.Laws.File.Written.{written_bytes, written_passes, written_network}

-- ---- writing and reading

-- For every network within the limits, its file is accepted ..
pub written_accepted : (net : Network) → WithinLimits net → Accepted (file_of net)
written_accepted net h = passes_accepted (file_of net) (written_bytes net h) (written_passes net h)

-- .. and reading it gives the network back.
pub written_loaded : (net : Network) → WithinLimits net → network_loaded (file_of net) ≡ net
unfolding network_loaded
written_loaded net h = rw (accepted_passes_rows (file_of net) (written_accepted net h), network_loaded) (written_network net (limits_few net h))

module _ (b : Bytes) (a : Accepted b) where
  bytes : AreBytes b
  unfolding byte_at
  bytes = record { small = a.bytes }

  -- An accepted file is the file of its network: nothing else in it is left open.
  pub accepted_written : file_of (network_of b) ≡ b
  accepted_written = passes_written b bytes (accepted_passes b a)

  pub accepted_loaded : network_loaded b ≡ network_of b
  unfolding network_loaded
  accepted_loaded = rw (accepted_passes_rows b a, network_loaded)

  -- ---- the network of an accepted file

  pub accepted_limits : WithinLimits (network_of b)
  accepted_limits = passes_within b bytes (accepted_passes b a)

  pub accepted_descend : Descends (arcs (network_of b)) level
  accepted_descend = limits_descend (network_of b) (limits_links accepted_limits)

  pub accepted_sound : Sound (network_of b).routers (arcs (network_of b))
  accepted_sound = limits_sound (network_of b) (limits_links accepted_limits)

  pub accepted_distances : LeastCosts (arcs (network_of b)) (distance_in (distances (network_of b)))
  accepted_distances = limits_distances (network_of b) (limits_links accepted_limits)

  pub accepted_named : (m l e : ℕ) → l < length (network_of b).links → Named (arcs (network_of b)) (protected m (network_of b) l e)
  accepted_named m l e h = limits_named (network_of b) (limits_links accepted_limits) m l e h

  pub accepted_capped : (p : ℕ) → p < length (network_of b).prefixes → Capped (get_or (network_of b).prefixes p [])
  accepted_capped p h = record { own = λ m. (accepted_limits.prefix_within (get_d_in (network_of b).prefixes p [] h)).cost_most m }

  -- L and the number of prefixes, as the head has them
  pub link_count : length (network_of b).links ≡ links_of b
  link_count = links_length b bytes (accepted_passes b a)

  pub prefix_count : length (network_of b).prefixes ≡ prefixes_of b
  prefix_count = prefixes_length b bytes (accepted_passes b a)

-- ---- the bytes of one named entry

-- Of an accepted file they are the entry that the link or the prefix is written as ..
pub link_part_lem : (b : Bytes) → Accepted b → (k : ℕ) → k < length (network_of b).links → link_part b k ≡ link_bytes (get_or (network_of b).links k (link 0 0 0 0))
unfolding link_part part_if
link_part_lem b a k h =
    let small : k < links_of b = rw (link_count b a) at h in
    let back = link_entry_back (network_of b) (limits_few (network_of b) (accepted_limits b a)) k h in
    rw (accepted_passes_rows b a, lt-ltb k (links_of b) small) (rw (accepted_written b a) at back)

pub prefix_part_lem : (b : Bytes) → Accepted b → (k : ℕ) → k < length (network_of b).prefixes → prefix_part b k ≡ prefix_bytes (get_or (network_of b).prefixes k [])
unfolding prefix_part part_if
prefix_part_lem b a k h =
    let small : k < prefixes_of b = rw (prefix_count b a) at h in
    let back = prefix_entry_back (network_of b) (limits_few (network_of b) (accepted_limits b a)) k h in
    rw (accepted_passes_rows b a, lt-ltb k (prefixes_of b) small) (rw (accepted_written b a) at back)

-- .. and for a refused file or a number too large there are none.
pub no_part : (b : Bytes) (d : Decided FileRow) (k : ℕ) → file_refusal b ≡ some d → (link_part b k ≡ []) × (prefix_part b k ≡ [])
unfolding link_part prefix_part part_if
no_part b d k e = (rw e, rw e)

part_beyond : (o : Option (Decided FileRow)) (part : Bytes) → part_if o false part ≡ []
unfolding part_if
part_beyond none part = refl
part_beyond (some d) part = refl

pub no_link_part : (b : Bytes) (k : ℕ) → links_of b ≤ k → link_part b k ≡ []
unfolding link_part
no_link_part b k h = rw (le-ltb k (links_of b) h) (part_beyond (file_refusal b) (link_entry b k))

pub no_prefix_part : (b : Bytes) (k : ℕ) → prefixes_of b ≤ k → prefix_part b k ≡ []
unfolding prefix_part
no_prefix_part b k h = rw (le-ltb k (prefixes_of b) h) (part_beyond (file_refusal b) (prefix_entry b k))
