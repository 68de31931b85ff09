-- Drills (Point 13): what is computed is the drill, and nothing else is; it is within the limits; its file has 1,024 bytes.
-- Assumes nothing.
use Rattle.std.specs.Prelude.{ℕ, ◌+◌, ◌-◌, ◌*◌, ◌≤◌, ◌<◌, ◌≡◌, true, List, leb, length}
use Rattle.std.proofs.Math.Path.{refl, sym, ap, subst}
use Rattle.std.proofs.Common.{◌∙◌, inl, inr, ext_get_or, leb-true, le-leb}
use native.Mathlib.Omega.{arith}
use Rattle.std.proofs.Math.ListN.{get_or}
use Rattle.std.proofs.lemmas.Bool.{lt-leb}
use Rattle.lfa.specs.Network.{Link, link, Target, Network}
use Rattle.lfa.specs.File.{Bytes, ceil, link_blocks, prefix_blocks, blocks_needed}
use Rattle.lfa.specs.FileOf.{file_of, WithinLimits}
use Rattle.lfa.specs.Ring.{next_on_ring, ring_of}
use Rattle.lfa.specs.Drill.{cost_drawn, out_drawn, back_drawn, DrillLink, IsDrill, is_drill_size, drill_of, drill_fits, Drilled}
use Rattle.lfa.proofs.Laws.Test.{and_left, and_right, and_make, fails_left, fails_right}
use Rattle.lfa.proofs.Laws.Ring.{next_on_ring_lem, last_on_ring, Next, next_either, ring_long, ring_link_lem, ring_limits}
use Rattle.lfa.specs.Writing.{Written, file_fits, Wrote}
use Rattle.lfa.proofs.Laws.Writing.{owes_nothing, limits_have}
use Rattle.lfa.proofs.Laws.File.WrittenBlocks.{blocks_for}
use Rattle.lfa.proofs.Laws.File.WrittenFile.{limits_few, file_long}

-- each cost is 1 to 100
cost_some : (seed k : ℕ) → 1 ≤ cost_drawn seed k
unfolding cost_drawn
cost_some seed k = omega arith

cost_most : (seed k : ℕ) → cost_drawn seed k ≤ 100
unfolding cost_drawn
cost_most seed k = omega arith

-- the test of the size is the size
pub size_gives : (n : ℕ) → is_drill_size n ≡ true → (3 ≤ n) × (n ≤ 64)
unfolding is_drill_size
size_gives n e = (leb-true 3 n (and_left (leb 3 n) (leb n 64) e), leb-true n 64 (and_right (leb 3 n) (leb n 64) e))

pub size_make : (n : ℕ) → (3 ≤ n) × (n ≤ 64) → is_drill_size n ≡ true
unfolding is_drill_size
size_make n h = and_make _ _ (le-leb 3 n h.0) (le-leb n 64 h.1)

same_network : (net other : Network) → net.routers ≡ other.routers → net.links ≡ other.links → net.prefixes ≡ other.prefixes → net ≡ other
same_network net other r l p =
    ap (λ (k : ℕ). record { routers = k; links = net.links; prefixes = net.prefixes }) r
    ∙ ap (λ (ls : List Link). record { routers = other.routers; links = ls; prefixes = net.prefixes }) l
    ∙ ap (λ (ps : List Target). record { routers = other.routers; links = other.links; prefixes = ps }) p

module _ (seed n : ℕ) where
  -- ---- what is computed is the drill, and nothing else is

  links_long : length (drill_of seed n).links ≡ n
  unfolding drill_of
  links_long = ring_long n (out_drawn seed) (back_drawn seed)

  -- link i, whose router b is known
  link_to : (i b : ℕ) → i < n → next_on_ring n i ≡ b → DrillLink seed (drill_of seed n) i b
  unfolding drill_of
  link_to i b h e = ring_link_lem n (out_drawn seed) (back_drawn seed) i h ∙ ap (λ b. link i b (out_drawn seed i) (back_drawn seed i)) e

  pub drill_is : 3 ≤ n → n ≤ 64 → IsDrill seed n (drill_of seed n)
  unfolding drill_of ring_of
  drill_is least most = record {
    least = least;
    most = most;
    routers = refl;
    links = links_long;
    joined = λ i h. link_to i (i + 1) (omega arith) (next_on_ring_lem n i h);
    closed = link_to (n - 1) 0 (omega arith) (last_on_ring n (n - 1) (omega arith));
    no_prefixes = refl;
  }

  pub is_drill : (net : Network) → IsDrill seed n net → net ≡ drill_of seed n
  unfolding drill_of ring_of
  is_drill net d = same_network net (drill_of seed n) d.routers (ext_get_or (link 0 0 0 0) _ _ (d.links ∙ sym links_long) each) d.no_prefixes
    where
      same : (i : ℕ) → i < n → Next n i → get_or net.links i (link 0 0 0 0) ≡ get_or (drill_of seed n).links i (link 0 0 0 0)
      same i h (inl e) = d.joined i e.0 ∙ sym (link_to i (i + 1) h e.1)
      same i h (inr e) = let last : i ≡ n - 1 = omega (arith, e.0) in subst (λ i. DrillLink seed net i 0) (sym last) d.closed ∙ sym (link_to i 0 h e.1)

      each : (i : ℕ) → i < length net.links → get_or net.links i (link 0 0 0 0) ≡ get_or (drill_of seed n).links i (link 0 0 0 0)
      each i h = let k : i < n = omega (arith, d.links) in same i k (next_either n i k)

  -- ---- it is within the limits, and its file is the head and one block of links

  pub drill_limits : 3 ≤ n → n ≤ 64 → WithinLimits (drill_of seed n)
  unfolding drill_of out_drawn back_drawn
  drill_limits least most =
      ring_limits n (out_drawn seed) (back_drawn seed) least most (λ i. (cost_some seed (2 * i), cost_some seed (2 * i + 1)))
      (λ i. (omega (arith, cost_most seed (2 * i)), omega (arith, cost_most seed (2 * i + 1))))

  pub drill_long : 3 ≤ n → n ≤ 64 → length (file_of (drill_of seed n)) ≡ 1024
  unfolding drill_of ring_of blocks_needed link_blocks prefix_blocks ceil
  drill_long least most =
      let few = limits_few (drill_of seed n) (drill_limits least most) in
      let one : link_blocks (length (drill_of seed n).links) ≡ 1 = ap link_blocks links_long ∙ omega arith in
      let two : blocks_for (drill_of seed n) ≡ 2 = omega (arith, one) in
      omega (arith, file_long (drill_of seed n) few, two)

  -- ---- what a call that writes drills owes

  -- outside 3 to 64 nothing
  pub too_few_lem : n < 3 → (before : Bytes) → Drilled seed n 0 before before
  unfolding drill_fits is_drill_size
  too_few_lem h before = owes_nothing before (fails_left _ _ (fails_left _ (leb n 64) (lt-leb 3 n h)))

  pub too_many : 64 < n → (before : Bytes) → Drilled seed n 0 before before
  unfolding drill_fits is_drill_size
  too_many h before = owes_nothing before (fails_left _ _ (fails_right (leb 3 n) _ (lt-leb n 64 h)))

  -- and else what the call owes that writes networks: a drill is within the limits
  pub drilled : 3 ≤ n → n ≤ 64 → {net : Network} {count : ℕ} {before after : Bytes} → net ≡ drill_of seed n → Wrote net count before after →
      Drilled seed n count before after
  unfolding file_fits drill_fits
  drilled least most {net} {count} {before} {after} e w =
      let fits : file_fits (drill_of seed n) (length before) ≡ drill_fits seed n (length before) =
      rw (limits_have (drill_of seed n) (drill_limits least most), size_make n (least, most)) refl in
      subst (λ fits. Written fits (file_of (drill_of seed n)) count before after) fits (subst (λ net. Wrote net count before after) e w)
