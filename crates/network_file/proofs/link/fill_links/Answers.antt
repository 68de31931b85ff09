use Rattle.std.proofs.Common.{◌≡◌, ◌<◌, ◌∙◌, arith}
use Rattle.lfa.specs.File.{routers_of, links_of, prefixes_of, byte_at}
use Rattle.network_file.specs.Struct.{from_of, to_of, out_of, back_of}
use Rattle.network_file.specs.Entry.{link_place}
use Rattle.network_file.proofs.ColumnLaws.{column_none, more}
use Rattle.network_file.proofs.LinkLaws.{link_next, link_there, link_end, from_read, to_read, out_read, back_read, column_links}
use Rattle.network_file.proofs.EntryLaws.{head_there, links_made}
use Rattle.network_file.proofs.link.fill_links.Goals as goal

pub loop-k-init : goal.loop-k-init
unfolding link_place links_of
loop-k-init c = record {
  few = omega (arith, c.word_at.ensures, c.from-links.ensures, c.requires.few_links);
  at_place = omega arith;
  small = omega arith;
  inside = λ h. link_there 0 516 (omega arith) c.args.file.now c.from-links.result c.requires (c.from-links.ensures ∙ c.word_at.ensures) h;
  from_filled = column_none 128 _;
  to_filled = column_none 128 _;
  out_filled = column_none 128 _;
  back_filled = column_none 128 _;
}

pub loop-k-preserved : goal.loop-k-preserved
unfolding links_of
loop-k-preserved c =
    let l = c.loop-k in
    let i = l.invariant in
    let b = c.args.file.now in
    let h : l.k < 128 = omega arith in
    let next = link_next l.k _ i.at_place c.next_place-place.ensures in
    record {
      few = i.few;
      at_place = next;
      small = link_end _ _ next (omega arith);
      inside = λ k. link_there _ _ next c.args.file.now c.from-links.result c.requires (c.from-links.ensures ∙ c.word_at.ensures) k;
      from_filled = more _ h i.from_filled (from_read l.k l.place i.at_place b);
      to_filled = more _ h i.to_filled (to_read l.k l.place i.at_place b);
      out_filled = more _ h i.out_filled (c.word_of.ensures ∙ out_read l.k l.place i.at_place b);
      back_filled = more _ h i.back_filled (c.word_of-in-loop-k.ensures ∙ back_read l.k l.place i.at_place b);
    }

pub bounds-file-4 : goal.bounds-file-4
bounds-file-4 c = omega (arith, head_there _ c.requires)

pub returns : goal.returns
unfolding routers_of links_of prefixes_of byte_at
returns c =
    let l = c.loop-k in
    let i = l.invariant in
    let b = c.args.file.now in
    let e : l.k ≡ c.from-links.result = omega arith in
    rw (i.from_filled, i.to_filled, i.out_filled, i.back_filled, e, column_links b _ from_of, column_links b _ to_of, column_links b _ out_of, column_links b _ back_of)
    (links_made b _ _ _ c.from.ensures (c.from-links.ensures ∙ c.word_at.ensures) (c.from-2.ensures ∙ c.word_at-2.ensures))
