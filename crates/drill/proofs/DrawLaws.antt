-- Links drawn one after the other into columns, and the network that the columns hold then.
-- Assumes nothing.
use Prim.Native.Nat.{ℕ, suc, ◌+◌, ◌*◌, ◌%◌, ◌≤◌, ◌<◌}
use mathlib.Core.Path.{◌≡◌, refl, ap, subst, ◌∙◌}
use mathlib.Core.Logic.{◌⊎◌, inl, inr}
use mathlib.Core.Bool.{true, false}
use mathlib.Core.List.{List, []}
use native.Mathlib.Omega.{arith}
use lib.Dec.{ltb}
use lib.ListN.{length, get_or, set, length-set}
use lib.Seq.{get_or-set_same, get_or-set_other}
use borrow.Author.Tests.{ltb-true, ltb-false}
use Rattle.lfa.specs.Lists.{count_up, below}
use Rattle.lfa.specs.Network.{link}
use Rattle.lfa.specs.Ring.{next_on_ring, ring_link, ring_of}
use Rattle.lfa.specs.Drill.{replaced, seed_after, upper_bits, draw, cost_drawn, out_drawn, back_drawn, drill_of}
use Rattle.lfa.proofs.Laws.Test.{decide}
use Rattle.lfa.proofs.Laws.Counting.{map_below_same}
use Rattle.metric.specs.Columns.{links_in}
use Rattle.network_file.specs.declared.network.Network.{Network}
use Rattle.network_file.specs.Held.{targets_in, network_held}
use Rattle.drill.specs.Columns.{Drawn}

-- i links of the drill are drawn: so many draws are made, and the columns hold them
pub record Drawing (seed n i drawn : ℕ) (from to out back : List ℕ) : Type 0 where
  pub few : i ≤ n
  pub drawn_is : drawn ≡ seed_after seed (2 * i)
  pub from_long : length from ≡ 128
  pub to_long : length to ≡ 128
  pub out_long : length out ≡ 128
  pub back_long : length back ≡ 128
  pub links : Drawn seed n i from to out back

-- ---- the next link

-- a cell that is set, at the place and at an earlier one
module _ (l : List ℕ) (i v : ℕ) (long : length l ≡ 128) (h : i < 128) where
  set_here : get_or (set l i v) i 0 ≡ v
  set_here = get_or-set_same l i v 0 (omega arith)

  set_before : (j : ℕ) → j < i → get_or (set l i v) j 0 ≡ get_or l j 0
  set_before j k = get_or-set_other l i j v 0 (λ same. omega arith)

module _ {seed n i drawn : ℕ} {from to out back : List ℕ} (d : Drawing seed n i drawn from to out back) (h : i < n) (most : n ≤ 64) where
  -- the costs are draws 2 × i and 2 × i + 1
  out_is : (first : ℕ) → first ≡ replaced drawn → 1 + upper_bits first % 100 ≡ out_drawn seed i
  unfolding out_drawn cost_drawn draw seed_after
  out_is first e = ap (λ s. 1 + upper_bits s % 100) (e ∙ ap replaced d.drawn_is)

  twice : (first second : ℕ) → first ≡ replaced drawn → second ≡ replaced first → second ≡ seed_after seed (suc (suc (2 * i)))
  unfolding seed_after
  twice first second e f = f ∙ ap replaced (e ∙ ap replaced d.drawn_is)

  back_is : (first second : ℕ) → first ≡ replaced drawn → second ≡ replaced first → 1 + upper_bits second % 100 ≡ back_drawn seed i
  unfolding back_drawn cost_drawn draw
  back_is first second e f = ap (λ s. 1 + upper_bits s % 100) (twice first second e f ∙ ap (seed_after seed) (omega arith))

  pub draw_next : (first second a b ab ba : ℕ) → first ≡ replaced drawn → second ≡ replaced first → a ≡ i → b ≡ next_on_ring n i →
      ab ≡ 1 + upper_bits first % 100 → ba ≡ 1 + upper_bits second % 100 →
      Drawing seed n (i + 1) second (set from i a) (set to i b) (set out i ab) (set back i ba)
  draw_next first second a b ab ba e f from_is to_is ab-is ba-is = record {
    few = omega arith;
    drawn_is = twice first second e f ∙ ap (seed_after seed) (omega arith);
    from_long = length-set from i a ∙ d.from_long;
    to_long = length-set to i b ∙ d.to_long;
    out_long = length-set out i ab ∙ d.out_long;
    back_long = length-set back i ba ∙ d.back_long;
    links = λ j k. each j (omega arith) (decide (ltb j i));
  }
    where
      in_column : i < 128
      in_column = omega arith

      cells : ℕ → Type 0
      cells j =
          link (get_or (set from i a) j 0) (get_or (set to i b) j 0) (get_or (set out i ab) j 0) (get_or (set back i ba) j 0)
          ≡ ring_link n (out_drawn seed) (back_drawn seed) j

      earlier : (j : ℕ) → j < i → cells j
      earlier j k =
          rw (
            set_before from i a d.from_long in_column j k,
            set_before to i b d.to_long in_column j k,
            set_before out i ab d.out_long in_column j k,
            set_before back i ba d.back_long in_column j k,
          )
          (d.links j k)

      here : cells i
      here =
          rw (
            set_here from i a d.from_long in_column,
            set_here to i b d.to_long in_column,
            set_here out i ab d.out_long in_column,
            set_here back i ba d.back_long in_column,
            from_is,
            to_is,
            ab-is ∙ out_is first e,
            ba-is ∙ back_is first second e f,
          )
          (unfold ring_link in refl)

      each : (j : ℕ) → j < i + 1 → (ltb j i ≡ true) ⊎ (ltb j i ≡ false) → cells j
      each j k (inl t) = earlier j (ltb-true j i t)
      each j k (inr t) = let same : i ≡ j = omega (arith, ltb-false j i t) in subst cells same here

-- ---- all of them

pub draw_none : (seed n : ℕ) (from to out back : List ℕ) → length from ≡ 128 → length to ≡ 128 → length out ≡ 128 → length back ≡ 128 →
    Drawing seed n 0 seed from to out back
unfolding seed_after
draw_none seed n from to out back a b c d = record {
  few = omega arith;
  drawn_is = refl;
  from_long = a;
  to_long = b;
  out_long = c;
  back_long = d;
  links = λ j k. absurd (omega arith);
}

-- the network with these links and no prefixes holds the drill
pub held_drill : (seed n : ℕ) (network : Network) → let links = network.links in (links.routers ≡ n) × (links.links ≡ n) × (links.prefixes ≡ 0)
    × Drawn seed n n links.from links.to links.out links.back → network_held network ≡ drill_of seed n
unfolding network_held targets_in below count_up links_in drill_of ring_of
held_drill seed n network d =
    rw (d.0, d.1, d.2)
    (ap (λ links. record { routers = n; links = links; prefixes = [] }) (map_below_same _ (ring_link n (out_drawn seed) (back_drawn seed)) n d.3))
