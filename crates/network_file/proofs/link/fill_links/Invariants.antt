-- The entry of link k stands at the place, inside the file. The first k cells of each column are those of the first k links, and the rest is zero.
use Rattle.std.proofs.Common.{◌≡◌, ◌+◌, ◌<◌, ◌≤◌, length}
use Rattle.lfa.specs.File.{link_of}
use Rattle.network_file.specs.Struct.{from_of, to_of, out_of, back_of, column}
use Rattle.network_file.specs.Entry.{link_place}
use Rattle.network_file.proofs.link.fill_links.Given as goal

abbrev pub invariant-loop-k : goal.invariant-loop-k
invariant-loop-k l = record {
  few : l.links ≤ 128;
  at_place : l.place ≡ link_place l.k;
  small : l.place ≤ 6656;
  inside : l.k < l.links → l.place + 6 ≤ length l.file;
  from_filled : l.from ≡ column 128 l.k (λ j. from_of (link_of l.file j));
  to_filled : l.to ≡ column 128 l.k (λ j. to_of (link_of l.file j));
  out_filled : l.out ≡ column 128 l.k (λ j. out_of (link_of l.file j));
  back_filled : l.back ≡ column 128 l.k (λ j. back_of (link_of l.file j));
}
