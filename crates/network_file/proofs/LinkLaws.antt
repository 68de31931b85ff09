-- Links: where their entries stand, what a cell of a column is, and rows 6 and 7.
-- Assumes nothing.
use Prim.Native.Nat.{ℕ, ◌+◌, ◌*◌, ◌/◌, ◌%◌, ◌≤◌, ◌<◌}
use mathlib.Core.Path.{◌≡◌, refl, sym, ap, ◌∙◌}
use mathlib.Core.Bool.{Bool, true, false}
use mathlib.Core.Logic.{◌⊎◌, inl, inr}
use mathlib.Core.Option.{Option, none, some}
use native.Mathlib.Omega.{arith}
use lib.Dec.{eqb}
use lib.ListN.{length, get_or}
use borrow.Author.Tests.{eqb-true, eqb-false}
use Rattle.lfa.specs.Lists.{first_failing}
use Rattle.lfa.specs.Network.{Link, link}
use Rattle.lfa.specs.File.{Bytes, byte_at, word_at, part_of, ceil, link_blocks, prefix_blocks, blocks_needed, routers_of, links_of, prefixes_of}
use Rattle.lfa.specs.File.{link_entry, link_in, link_of, prefix_of, network_of, link_good, link_new}
use Rattle.lfa.proofs.Laws.Test.{decide}
use Rattle.lfa.proofs.Laws.Chunks.{part_element}
use Rattle.lfa.proofs.Laws.Counting.{length_map_below, map_below_at}
use Rattle.lfa.proofs.Laws.FirstFailing.{none_failing, all_passing, first_failing_lem, failing_first}
use Rattle.block.specs.Judged.{Sized}
use Rattle.metric.specs.declared.columns.Links.{Links}
use Rattle.network_file.specs.Laws.Struct.{struct_link}
use Rattle.network_file.specs.Struct.{from_of, to_of, out_of, back_of, column, link_column, links_in, links_struct_of}
use Rattle.network_file.specs.Entry.{LinksOf, FewLinks, EntryAt, link_place, place_in, next_place, link_at, link_sound, pair_new}
use Rattle.network_file.proofs.EveryLaws.{every_same}
use Rattle.network_file.proofs.ColumnLaws.{column_map}

-- ---- places

-- The entry of a link lies inside the file: its block is below the number of blocks needed, and within the block it ends before
-- the check.
pub link_inside : (b : Bytes) → Sized b → (k : ℕ) → k < links_of b → 512 * (1 + k / 84) + 4 + 6 * (k % 84) + 6 ≤ length b
unfolding blocks_needed link_blocks prefix_blocks ceil
link_inside b s k h = omega (arith, s.whole)

-- The place after that of link k. 84 entries fill a block up to its byte 508, so the next one stands behind the label of the next
-- block where the place behind this one is such a byte, and else directly behind it.
module _ (k place : ℕ) (is : place ≡ link_place k) where
  link_block_lem : (place + 6) % 512 ≡ 508 → place + 6 + 8 ≡ link_place (k + 1)
  unfolding link_place
  link_block_lem h = omega arith

  link_behind : ((place + 6) % 512 ≡ 508 → ⊥) → place + 6 ≡ link_place (k + 1)
  unfolding link_place
  link_behind h =
      let last : k % 84 ≡ 83 → ⊥ = λ q. h (full (omega arith)) in
      omega arith
    where
      full : place + 6 ≡ 512 * (1 + k / 84) + 508 → (place + 6) % 512 ≡ 508
      full e = omega arith

  pub link_next : {r : ℕ} → r ≡ next_place 6 84 place → r ≡ link_place (k + 1)
  link_next q = q ∙ go (decide (eqb ((place + 6) % 512) 508))
    where
      go : (eqb ((place + 6) % 512) 508 ≡ true) ⊎ (eqb ((place + 6) % 512) 508 ≡ false) → next_place 6 84 place ≡ link_place (k + 1)
      go (inl t) = rw (t, next_place) (link_block_lem (eqb-true ((place + 6) % 512) 508 t))
      go (inr f) = rw (f, next_place) (link_behind (eqb-false ((place + 6) % 512) 508 f))

  -- it lies inside the file
  pub link_there : (b : Bytes) (links : ℕ) → Sized b → links ≡ links_of b → k < links → place + 6 ≤ length b
  unfolding link_place
  link_there b links s right h = rw is (link_inside b s k (rw right at h))

  -- and so does one of few links
  pub link_end : k ≤ 128 → place ≤ 6656
  unfolding link_place
  link_end h = omega arith

  -- ---- the numbers of link k, as they stand at its place
  module _ (b : Bytes) where
    entry_byte : (i : ℕ) → i < 6 → get_or b (place + i) 0 ≡ byte_at (link_entry b k) i
    unfolding byte_at link_entry part_of link_place
    entry_byte i h = rw is (sym (part_element b (link_place k) 6 i 0 h))

    pub from_read : get_or b place 0 ≡ from_of (link_of b k)
    unfolding from_of link_of link_in
    from_read = let e : place ≡ place + 0 = omega arith in ap (λ (m : ℕ). get_or b m 0) e ∙ entry_byte 0 (omega arith)

    pub to_read : get_or b (place + 1) 0 ≡ to_of (link_of b k)
    unfolding to_of link_of link_in
    to_read = entry_byte 1 (omega arith)

    pub out_read : get_or b (place + 2) 0 + 256 * get_or b (place + 3) 0 ≡ out_of (link_of b k)
    unfolding out_of link_of link_in word_at
    out_read = omega (arith, entry_byte 2 (omega arith), entry_byte 3 (omega arith))

    pub back_read : get_or b (place + 4) 0 + 256 * get_or b (place + 5) 0 ≡ back_of (link_of b k)
    unfolding back_of link_of link_in word_at
    back_read = omega (arith, entry_byte 4 (omega arith), entry_byte 5 (omega arith))

-- ---- columns

-- the column of one number of the links
pub column_links : (b : Bytes) (n : ℕ) (f : Link → ℕ) → column 128 n (λ k. f (link_of b k)) ≡ link_column f (links_in b n)
unfolding link_column links_in
column_links b n f = column_map 128 n f (link_of b)

-- link k, as the columns hold it
pub link_read : (b : Bytes) (l : Links) → LinksOf b l → (k : ℕ) → k < l.links → link_at l k ≡ link_of b k
unfolding link_at links_struct_of network_of
link_read b l of k h =
    let n : length (network_of b).links ≡ links_of b = length_map_below (link_of b) (links_of b) in
    let m : k < links_of b = rw (of.same, n) at h in
    rw of.same (struct_link (network_of b) k (rw n m) ∙ map_below_at (link_of b) (link 0 0 0 0) (links_of b) k m)

-- ---- rows 6 and 7

-- tests that agree find the same number
first_same : (f g : ℕ → Bool) (i n : ℕ) → ((k : ℕ) → i ≤ k → k < i + n → f k ≡ g k) → first_failing f i n ≡ first_failing g i n
first_same f g i n same = go (first_failing f i n) refl
  where
    go : (o : Option ℕ) → first_failing f i n ≡ o → first_failing f i n ≡ first_failing g i n
    go none p = p ∙ sym (all_passing g i n (λ k a h. sym (same k a h) ∙ none_failing f i n p k a h))
    go (some k) p =
        let r = first_failing_lem f i n k p in
        p ∙ sym (failing_first g i n k (record {
          from = r.from;
          to = r.to;
          fails = sym (same k r.from r.to) ∙ r.fails;
          before = λ j a h. sym (same j a (omega (arith, r.to))) ∙ r.before j a h;
        }))

module _ (b : Bytes) (l : Links) (of : LinksOf b l) where
  pub routers_read : l.routers ≡ routers_of b
  unfolding links_struct_of network_of
  routers_read = ap (λ (x : Links). x.routers) of.same

  pub links_read : l.links ≡ links_of b
  unfolding links_struct_of network_of
  links_read = ap (λ (x : Links). x.links) of.same ∙ length_map_below (link_of b) (links_of b)

  pub prefixes_read : l.prefixes ≡ prefixes_of b
  unfolding links_struct_of network_of
  prefixes_read = ap (λ (x : Links). x.prefixes) of.same ∙ length_map_below (prefix_of b) (prefixes_of b)

  pub few_links : FewLinks l
  few_links = record { few_routers = omega (arith, routers_read, of.sized.few_routers); few_links = omega (arith, links_read, of.sized.few_links) }

  -- what the rows find among the columns is what they find in the file
  pub row_6 : first_failing (link_sound l) 0 l.links ≡ first_failing (link_good b) 0 (links_of b)
  unfolding link_sound link_good
  row_6 = first_same _ _ 0 l.links (λ k _ h. rw (link_read b l of k (omega arith), routers_read)) ∙ ap (first_failing (link_good b) 0) links_read

  pub row_7 : first_failing (pair_new l) 0 l.links ≡ first_failing (link_new b) 0 (links_of b)
  unfolding pair_new link_new
  row_7 = first_same (pair_new l) (link_new b) 0 l.links (λ k _ h. new_same k (omega arith)) ∙ ap (first_failing (link_new b) 0) links_read
    where
      new_same : (k : ℕ) → k < l.links → pair_new l k ≡ link_new b k
      new_same k h = every_same _ _ k (λ j m. rw (link_read b l of k h, link_read b l of j (omega arith)))

-- the entry of prefix p stands at its place
pub entry_there : (b : Bytes) (l : Links) → LinksOf b l → (place p : ℕ) → place ≡ place_in l.links p → p < l.prefixes → EntryAt b place p
entry_there b l of place p is h = record {
  sized = of.sized;
  in_file = omega (arith, prefixes_read b l of);
  at_place = is ∙ ap (λ (n : ℕ). place_in n p) (links_read b l of);
}
