-- Rows 6 to 9 in order: which row decides at each return, and the network by value.
-- Assumes nothing.
use Prim.Native.Nat.{ℕ, ◌≤◌}
use mathlib.Core.Path.{◌≡◌, sym, ap, ◌∙◌}
use mathlib.Core.Option.{none, some}
use mathlib.Core.List.{List, [], ◌∷◌}
use native.Mathlib.Omega.{arith}
use lib.ListN.{length}
use Rattle.lfa.specs.Lists.{first_failing}
use Rattle.lfa.specs.File.{Bytes, routers_of, links_of, prefixes_of, link_of, prefix_of, network_of, prefix_good, routers_new, blocks_needed}
use Rattle.lfa.specs.Refusal.{file_returned, bad_link, parallel_link, bad_prefix, router_twice, decided, first_row}
use Rattle.lfa.proofs.Laws.List.{get_d_in}
use Rattle.lfa.proofs.Laws.FirstFailing.{none_failing}
use Rattle.lfa.proofs.Laws.Counting.{length_map_below}
use Rattle.lfa.proofs.Laws.Rows.{none_decides}
use Rattle.block.specs.Judged.{Sized}
use Rattle.block.specs.Laws.Rows.{first_here, first_next}
use Rattle.metric.specs.declared.columns.Links.{Links}
use Rattle.network_file.specs.Struct.{from_of, to_of, out_of, back_of, link_column, links_in, prefixes_in, attached_column, slot_column, router_of, cost_of, struct_of, links_struct_of}
use Rattle.network_file.specs.Entry.{LinksOf, link_rows, prefix_rows, link_sound, pair_new, PrefixesSound}
use Rattle.network_file.proofs.LinkLaws.{prefixes_read, row_6, row_7}

-- a file that rows 1 to 5 pass has a head
pub head_there : (b : Bytes) → Sized b → 512 ≤ length b
unfolding blocks_needed
head_there b s = omega (arith, s.whole)

-- ---- the row that decides

-- The returns of the code in turn. At each, the rows before have passed over the whole file; a row whose loop finds a number decides with
-- that number.
module _ (b : Bytes) (l : Links) (of : LinksOf b l) where
  -- ---- rows 6 and 7
  pub bad_link_decides : {k : ℕ} → some k ≡ first_failing (link_sound l) 0 l.links → some (decided bad_link k) ≡ first_row (file_returned b) link_rows
  unfolding file_returned link_rows
  bad_link_decides {k} e = first_here (file_returned b) bad_link _ k (sym (e ∙ row_6 b l of))

  module _ (pass6 : none ≡ first_failing (link_sound l) 0 l.links) where
    after_6 : first_row (file_returned b) (parallel_link ∷ []) ≡ first_row (file_returned b) link_rows
    unfolding file_returned link_rows
    after_6 = first_next (file_returned b) bad_link _ (sym (pass6 ∙ row_6 b l of))

    pub parallel_decides : {k : ℕ} → some k ≡ first_failing (pair_new l) 0 l.links → some (decided parallel_link k) ≡ first_row (file_returned b) link_rows
    unfolding file_returned
    parallel_decides {k} e = first_here (file_returned b) parallel_link [] k (sym (e ∙ row_7 b l of)) ∙ after_6

    pub no_link_decides : none ≡ first_failing (pair_new l) 0 l.links → none ≡ first_row (file_returned b) link_rows
    unfolding file_returned first_row
    no_link_decides e = first_next (file_returned b) parallel_link [] (sym (e ∙ row_7 b l of)) ∙ after_6

  -- ---- rows 8 and 9
  row_8 : first_failing (prefix_good b) 0 l.prefixes ≡ first_failing (prefix_good b) 0 (prefixes_of b)
  row_8 = ap (first_failing (prefix_good b) 0) (prefixes_read b l of)

  row_9 : first_failing (routers_new b) 0 l.prefixes ≡ first_failing (routers_new b) 0 (prefixes_of b)
  row_9 = ap (first_failing (routers_new b) 0) (prefixes_read b l of)

  pub bad_prefix_decides : {p : ℕ} → some p ≡ first_failing (prefix_good b) 0 l.prefixes → some (decided bad_prefix p) ≡ first_row (file_returned b) prefix_rows
  unfolding file_returned prefix_rows
  bad_prefix_decides {p} e = first_here (file_returned b) bad_prefix _ p (sym (e ∙ row_8))

  module _ (pass8 : none ≡ first_failing (prefix_good b) 0 l.prefixes) where
    pub sound_prefixes : PrefixesSound b l.prefixes
    sound_prefixes p h = none_failing (prefix_good b) 0 l.prefixes (sym pass8) p (omega arith) (omega arith)

    after_8 : first_row (file_returned b) (router_twice ∷ []) ≡ first_row (file_returned b) prefix_rows
    unfolding file_returned prefix_rows
    after_8 = first_next (file_returned b) bad_prefix _ (sym (pass8 ∙ row_8))

    pub twice_decides : {p : ℕ} → some p ≡ first_failing (routers_new b) 0 l.prefixes → some (decided router_twice p) ≡ first_row (file_returned b) prefix_rows
    unfolding file_returned
    twice_decides {p} e = first_here (file_returned b) router_twice [] p (sym (e ∙ row_9)) ∙ after_8

    pub no_prefix_decides : none ≡ first_failing (routers_new b) 0 l.prefixes → none ≡ first_row (file_returned b) prefix_rows
    unfolding file_returned first_row
    no_prefix_decides e = first_next (file_returned b) router_twice [] (sym (e ∙ row_9)) ∙ after_8

-- ---- the network by value

-- where neither of rows 8 and 9 applies, row 8 passes each prefix
pub prefixes_sound : (b : Bytes) (l : Links) → LinksOf b l → first_row (file_returned b) prefix_rows ≡ none → PrefixesSound b l.prefixes
unfolding file_returned prefix_rows
prefixes_sound b l of e p h =
    let none_applies = none_decides (file_returned b) prefix_rows e bad_prefix (get_d_in prefix_rows 0 bad_prefix (omega arith)) in
    none_failing (prefix_good b) 0 (prefixes_of b) none_applies p (omega arith) (omega (arith, prefixes_read b l of))

-- The structs that the code puts together: the counts and links of the file's network ..
pub links_made : (b : Bytes) (routers links prefixes : ℕ) → routers ≡ routers_of b → links ≡ links_of b → prefixes ≡ prefixes_of b →
    record {
      routers = routers;
      links = links;
      prefixes = prefixes;
      from = link_column from_of (links_in b links);
      to = link_column to_of (links_in b links);
      out = link_column out_of (links_in b links);
      back = link_column back_of (links_in b links);
    } ≡ links_struct_of (network_of b)
unfolding links_struct_of network_of links_in
links_made b routers links prefixes n l p = rw (n, l, p) (rw (length_map_below (link_of b) (links_of b), length_map_below (prefix_of b) (prefixes_of b)))

-- .. and with the columns of its prefixes the whole of it
pub struct_made : (b : Bytes) (l : Links) {attached at own : List ℕ} → LinksOf b l →
    (attached ≡ attached_column (prefixes_in b l.prefixes)) × (at ≡ slot_column router_of (prefixes_in b l.prefixes)) × (own ≡ slot_column cost_of (prefixes_in b l.prefixes)) →
    record { links = l; attached = attached; at = at; own = own } ≡ struct_of (network_of b)
unfolding struct_of links_struct_of network_of prefixes_in
struct_made b l of cells = rw (cells.0, cells.1, cells.2, of.same, length_map_below (prefix_of b) (prefixes_of b))
