-- The network by value holds the network: its columns hold each link, its slots the attachments of each prefix, and so all of it is
-- read back from the columns.
-- Assumes nothing.
use Prim.Native.Nat.{ℕ, ◌+◌, ◌-◌, ◌*◌, ◌<◌}
use Rattle.std.specs.Prelude.{◌≡◌, refl, replicate}
use Rattle.std.proofs.Math.Path.{sym, ap}
use Rattle.std.proofs.Common.{◌∙◌, arith}
use mathlib.Core.List.Memᴰ
use mathlib.Core.List.{List, [], map}
use Rattle.std.proofs.Math.ListN.{length, get_or, length-map}
use Rattle.lfa.specs.Lists.{flat}
use Rattle.lfa.specs.Network.{Link, link, Attachment, at, Target, Network}
use Rattle.lfa.specs.FileOf.{pad, WithinLimits}
use Rattle.lfa.proofs.Laws.Chunks.{element_mapped, part_element, part_flat, EachLong, made_again}
use Rattle.lfa.proofs.Laws.List.{get_d_in}
use Rattle.lfa.proofs.Laws.File.WrittenBlock.{pad_long}
use Rattle.lfa.proofs.Laws.File.WrittenFile.{FewAttached, limits_few, prefix_within_at}
use Rattle.metric.specs.Fit.{SlotsWithin}
use Rattle.metric.specs.Columns.{links_in, InColumns}
use Rattle.metric.specs.Column.{slots_in}
use Rattle.metric.proofs.Laws.Column.{pad_at}
use Rattle.network_file.specs.Struct.{from_of, to_of, out_of, back_of, router_of, cost_of, link_column, slot_column, attached_column, struct_of, links_struct_of}
use Rattle.network_file.specs.Held.{targets_in, network_held}

-- ---- links

-- the cell of link k in a column is link k's number
column_cell : (f : Link → ℕ) (links : List Link) (k : ℕ) → k < length links →
    get_or (link_column f links) k 0 ≡ f (get_or links k (link 0 0 0 0))
unfolding link_column
column_cell f links k h = pad_at 128 (map f links) k 0 (omega (arith, length-map links f)) ∙ element_mapped f links k (link 0 0 0 0) 0 h

same_link : (l : Link) → link (from_of l) (to_of l) (out_of l) (back_of l) ≡ l
unfolding from_of to_of out_of back_of
same_link (link a b ab ba) = refl

-- the columns hold link k
pub struct_link : (net : Network) (k : ℕ) → k < length net.links →
    let s = links_struct_of net in link (get_or s.from k 0) (get_or s.to k 0) (get_or s.out k 0) (get_or s.back k 0) ≡ get_or net.links k (link 0 0 0 0)
unfolding links_struct_of
struct_link net k h =
    rw (
      column_cell from_of net.links k h,
      column_cell to_of net.links k h,
      column_cell out_of net.links k h,
      column_cell back_of net.links k h,
    )
    (same_link (get_or net.links k (link 0 0 0 0)))

-- the links by value hold those of the network in their columns
pub struct_columns : (net : Network) →
    let s = links_struct_of net in InColumns net s.routers s.links s.from s.to s.out s.back
unfolding links_struct_of links_in
struct_columns net = record {
  routers_are = refl;
  links_are = sym (made_again _ net.links (link 0 0 0 0) (struct_link net));
}

-- ---- prefixes

same_attachment : (a : Attachment) → at (router_of a) (cost_of a) ≡ a
unfolding router_of cost_of
same_attachment (at r c) = refl

-- prefix p, where each prefix has at most eight attachments
module _ (net : Network) (few : FewAttached net) (p : ℕ) (h : p < length net.prefixes) where
  abbrev prefix : Target
  prefix = get_or net.prefixes p []

  -- how many are attached
  pub attached_cell : get_or (struct_of net).attached p 0 ≡ length prefix
  unfolding struct_of attached_column
  attached_cell =
      pad_at 128 (map length net.prefixes) p 0 (omega (arith, length-map net.prefixes length))
      ∙ element_mapped length net.prefixes p [] 0 h

  -- one number of the attachment in slot s
  pub slot_cell : (f : Attachment → ℕ) (s : ℕ) → s < length prefix →
      get_or (slot_column f net.prefixes) (8 * p + s) 0 ≡ f (get_or prefix s (at 0 0))
  unfolding slot_column pad
  slot_cell f s k =
      sym (part_element (slot_column f net.prefixes) (8 * p) 8 s 0 (omega (arith, few p h)))
      ∙ ap (λ (l : List ℕ). get_or l s 0) (
      part_flat 8 slots (replicate (1024 - length (flat slots)) 0) each p (omega (arith, length-map net.prefixes slots_of))
      ∙ element_mapped slots_of net.prefixes p [] [] h)
      ∙ pad_at 8 (map f prefix) s 0 (omega (arith, length-map prefix f)) ∙ element_mapped f prefix s (at 0 0) 0 k
    where
      slots_of : Target → List ℕ
      slots_of to = pad 8 (map f to)

      slots : List (List ℕ)
      slots = map slots_of net.prefixes

      each : EachLong 8 slots
      each i j =
          let k : i < length net.prefixes = omega (arith, length-map net.prefixes slots_of) in
          ap length (element_mapped slots_of net.prefixes i [] [] k)
          ∙ pad_long 8 (map f (get_or net.prefixes i [])) (omega (arith, length-map (get_or net.prefixes i []) f, few i k))

  -- the slots of prefix p hold its attachments
  pub slots_prefix : slots_in (struct_of net).at (struct_of net).own (8 * p) (get_or (struct_of net).attached p 0) ≡ prefix
  unfolding slots_in struct_of
  slots_prefix = rw attached_cell (made_again _ prefix (at 0 0) cell)
    where
      cell : (s : ℕ) → s < length prefix →
          at (get_or (slot_column router_of net.prefixes) (8 * p + s) 0) (get_or (slot_column cost_of net.prefixes) (8 * p + s) 0)
          ≡ get_or prefix s (at 0 0)
      cell s k = rw (slot_cell router_of s k, slot_cell cost_of s k) (same_attachment (get_or prefix s (at 0 0)))

-- and in a network within the limits they are routers
pub slots_within : (net : Network) → WithinLimits net → (p : ℕ) → p < length net.prefixes →
    SlotsWithin net.routers (8 * p) (get_or (struct_of net).attached p 0) (struct_of net).at
unfolding struct_of
slots_within net limits p h =
    let few = limits_few net limits in
    let within = prefix_within_at net limits p h in
    let to = get_or net.prefixes p [] in
    record {
      few = omega (arith, attached_cell net few p h, few p h, limits.few_prefixes);
      router_in = λ s k.
          let i : s < length to = omega (arith, attached_cell net few p h) in
          let m = Memᴰ.cast (same_attachment (get_or to s (at 0 0))) (get_d_in to s (at 0 0) i) in
          omega (arith, slot_cell net few p h router_of s i, within.router_in m);
    }

-- ---- all of it

-- The network that `struct_of net` holds is net: its links and its prefixes are read back one by one.
pub struct_held : (net : Network) → FewAttached net → network_held (struct_of net) ≡ net
unfolding network_held
struct_held net few =
    let s = struct_of net in
    let links : links_in s.links.from s.links.to s.links.out s.links.back s.links.links ≡ net.links =
    unfold struct_of links_struct_of in sym (struct_columns net).links_are in
    let prefixes : targets_in s.attached s.at s.own s.links.prefixes ≡ net.prefixes =
    unfold targets_in struct_of links_struct_of in made_again _ net.prefixes [] (slots_prefix net few) in
    rw (links, prefixes) (unfold struct_of links_struct_of in refl)
