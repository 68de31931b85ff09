-- The answers of the public functions, where the area holds the distances of the network: they are document 01's.
-- Assumes nothing.
use Rattle.std.specs.Prelude.{ℕ, ◌*◌, ◌<◌, ◌≡◌, true, List, get_or}
use Rattle.std.proofs.Math.Path.{refl, sym}
use Rattle.std.proofs.Common.{◌∙◌, arith}
use borrow.Author.Tests.{lt-ltb, le-leb}
use Rattle.lfa.specs.Network.{router}
use Rattle.lfa.specs.Space.{Space, space_of}
use Rattle.lfa.specs.Repair.{link_outcome, prefix_outcome}
use Rattle.lfa.proofs.Laws.Test.{and_make}
use Rattle.lfa.proofs.Laws.Bound.{falls}
use Rattle.lfa.proofs.Laws.Repair.{may_test}
use Rattle.metric.specs.declared.columns.Links.{Links}
use Rattle.network_file.specs.declared.network.Network.{Network}
use Rattle.metric.specs.Area.{held}
use Rattle.metric.specs.Column.{slots_in}
use Rattle.metric.specs.Fit.{ColumnsWithin, SlotsWithin}
use Rattle.column.specs.Laws.Calls as column
use Rattle.avoid.specs.Known.{Known}
use Rattle.avoid.specs.Laws.Calls.{passes}
use Rattle.avoid.specs.Laws.Known.{can_read}
use Rattle.steps.specs.Laws.Next.{RightEnds}
use Rattle.steps.specs.Laws.Crossing as by-steps
use Rattle.search.specs.Calls.{searchable, space_if, link_for, link_if, prefix_if, hops_of, protected_of, searches, ends_to, space_by, link_by, prefix_by}
use Rattle.search.proofs.Laws.Known.{far_in, avoiding_known, space_known, none_misses, set_misses}
use Rattle.search.proofs.Laws.Pairs.{pair_known, prefix_known}

-- the columns hold a network and the area its distances, and an end of one of its links is named
pub record Asking (columns : Links) (l e : ℕ) (area : List ℕ) : Type 0 where
  pub within : ColumnsWithin columns.routers columns.links columns.from columns.to
  pub link_in_lem : l < columns.links
  pub known : Known columns.routers (hops_of columns) (protected_of columns l e) area

module _ {columns : Links} {l e : ℕ} {area : List ℕ} (a : Asking columns l e area) where
  abbrev n : ℕ
  n = columns.routers

  abbrev d : ℕ → ℕ → ℕ
  d = held n area

  -- the test passes
  searched : searches columns l e area ≡ true
  unfolding searchable
  searched = and_make _ _ (lt-ltb l 128 (omega (arith, a.within.few_links, a.link_in_lem))) (and_make _ _ (le-leb columns.links 128 a.within.few_links) (passes (can_read n (hops_of columns) (protected_of columns l e) area a.known)))

  pub space_found : (s : Space) → space_by s columns l e area ≡ space_of s n (hops_of columns) d (protected_of columns l e)
  unfolding space_by space_if
  space_found s = rw (searched, space_if) (space_known n (hops_of columns) (protected_of columns l e) area a.known s)

  pub link_found_lem : (ranks : List ℕ) → link_by columns ranks l e area ≡ link_outcome ranks n (hops_of columns) d (protected_of columns l e)
  unfolding link_by link_if link_for link_outcome
  link_found_lem ranks =
      let q = protected_of columns l e in
      let known = a.known in
      let to-far = column.router_known n area known.sound.few known.long q.far (far_in n (hops_of columns) q area known) refl in
      rw (searched, link_if)
      (pair_known ranks n (hops_of columns) q area known (router q.far) _ to-far _ (avoiding_known n (hops_of columns) q area known q.far _ to-far) (none_misses n (hops_of columns) q area known))

-- A network is asked about by its links, and by the slots of a prefix.
module _ (network : Network) {l e : ℕ} {area : List ℕ} (a : Asking network.links l e area) where
  abbrev columns : Links
  columns = network.links

  pub prefix_found_lem : (ranks : List ℕ) (x : ℕ) → x < 128 → SlotsWithin columns.routers (8 * x) (get_or network.attached x 0) network.at →
      prefix_by network ranks l e x area ≡ prefix_outcome ranks columns.routers (hops_of columns) (held columns.routers area) (protected_of columns l e) (slots_in network.at network.own (8 * x) (get_or network.attached x 0))
  unfolding prefix_by prefix_if
  prefix_found_lem ranks x x-in slots =
      let n = columns.routers in
      let hops = hops_of columns in
      let d = held n area in
      let q = protected_of columns l e in
      let known = a.known in
      let target = slots_in network.at network.own (8 * x) (get_or network.attached x 0) in
      let to-prefix = column.prefix_known n area known.sound.few known.long network.at network.own (8 * x) (get_or network.attached x 0) slots refl in
      let ends : RightEnds n target (ends_to network x) = record { at = λ y h. column.attached_known network.own known.sound.few slots h } in
      let avoiding = by-steps.avoiding_known a.within network.links.out network.links.back d target (ends_to network x) ends _ to-prefix q known.named in
      let missing = by-steps.missing_known a.within network.links.out network.links.back d target (ends_to network x) ends _ to-prefix q known.named (falls known.sound d target).1 in
      let crosses = by-steps.over_known a.within network.links.out network.links.back d target (ends_to network x) ends _ to-prefix q known.named ∙ sym (may_test n hops d q known.sound known.named target) in
      rw (searched a, lt-ltb x 128 x-in, prefix_if) (prefix_known ranks n hops q area known target _ to-prefix _ avoiding (set_misses n hops d target q.far _ missing) (ends_to network x) crosses)
