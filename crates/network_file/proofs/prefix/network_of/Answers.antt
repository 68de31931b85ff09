use Rattle.std.proofs.Common.{◌≡◌, ◌<◌, arith}
use Rattle.network_file.specs.Struct.{router_of, cost_of}
use Rattle.network_file.proofs.ColumnLaws.{column_none, more}
use Rattle.network_file.proofs.LinkLaws.{few_links, prefixes_read, entry_there}
use Rattle.network_file.proofs.PlaceLaws.{place_next, place_inside, place_small}
use Rattle.network_file.proofs.AttachmentLaws.{attached_read, eight_more, columns_filled}
use Rattle.network_file.proofs.EntryLaws.{prefixes_sound, struct_made}
use Rattle.network_file.proofs.prefix.network_of.Goals as goal

pub first_place-place-requires : goal.first_place-place-requires
first_place-place-requires c = (few_links _ _ c.requires.0).few_links

pub loop-p-init : goal.loop-p-init
loop-p-init c = record {
  few = omega (arith, prefixes_read _ _ c.requires.0, c.requires.0.sized.few_prefixes);
  at_place = c.first_place-place.ensures;
  attached_filled = column_none 128 _;
  routers_filled = column_none 1024 _;
  costs_filled = column_none 1024 _;
}

pub entry_at-entry-requires : goal.entry_at-entry-requires
entry_at-entry-requires c = place_inside _ _ _ (entry_there _ _ c.requires.0 _ _ c.loop-p.invariant.at_place c.loop-p-test.true)

pub store_slots-requires : goal.store_slots-requires
store_slots-requires c = (c.entry_at-entry.ensures.1, omega arith)

pub next_place-place-requires : goal.next_place-place-requires
next_place-place-requires c =
    (place_small _ c.loop-p.p _ c.loop-p.invariant.at_place (few_links _ _ c.requires.0).few_links (omega arith), omega arith, omega arith)

pub loop-p-preserved : goal.loop-p-preserved
loop-p-preserved c =
    let l = c.loop-p in
    let i = l.invariant in
    let b = c.args.file.now in
    let is = c.entry_at-entry.ensures.0 _ (entry_there _ _ c.requires.0 _ _ i.at_place c.loop-p-test.true).at_place in
    let h : l.p < 128 = omega arith in
    record {
      few = i.few;
      at_place = place_next _ l.p _ i.at_place c.next_place-place.ensures;
      attached_filled = more _ h i.attached_filled (attached_read b _ l.p is);
      routers_filled = eight_more b _ l.p router_of h is i.routers_filled c.store_slots.ensures.routers;
      costs_filled = eight_more b _ l.p cost_of h is i.costs_filled c.store_slots.ensures.costs;
    }

pub returns : goal.returns
returns c =
    let l = c.loop-p in
    let i = l.invariant in
    let of = c.requires.0 in
    let e : l.p ≡ c.args.links.now.prefixes = omega arith in
    struct_made _ _ of
    (columns_filled _ _ (prefixes_sound _ _ of c.requires.1) (rw e at i.attached_filled) (rw e at i.routers_filled) (rw e at i.costs_filled))
