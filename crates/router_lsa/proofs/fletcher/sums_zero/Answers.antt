use Rattle.std.proofs.Common.{◌≡◌, ◌-◌, sym, refl, ap, ◌∙◌, ℕ, ◌+◌, ◌%◌, ◌≤◌, List, arith, length, take, drop, eq-eqb, ne_eqb}
use Rattle.std.proofs.lemmas.List.{take_rest}
use Rattle.ospf.specs.Lsa.{fletcher, sums}
use Rattle.router_lsa.proofs.LinkLaws.{sum_more, sum_ends, zero_first, zero_second}
use Rattle.router_lsa.proofs.fletcher.sums_zero.Goals as goal

pub loop-x-preserved : goal.loop-x-preserved
loop-x-preserved c =
    let l = c.loop-x in
    (omega arith, omega arith, sum_more _ l.x-index l.c0 l.c1 _ _ c.loop-x-test.true (ap (λ (x : ℕ). (l.c0 + x) % 255) c.from.ensures) refl ∙ l.invariant.2)

-- the sums over all bytes, once the loop has passed them
all_passed : (l : List ℕ) (i c₀ c₁ : ℕ) → fletcher c₀ c₁ (drop i (take (length l - 2) (drop 2 l))) ≡ fletcher 0 0 (take (length l - 2) (drop 2 l)) →
    length (take (length l - 2) (drop 2 l)) ≤ i → fletcher 0 0 (drop 2 l) ≡ sums c₀ c₁
all_passed l i c₀ c₁ e h = rw (take_rest l 2) at (sym e ∙ sum_ends _ i _ _ h)

pub returns-then-c0-eq0 : goal.returns-then-c0-eq0
returns-then-c0-eq0 c =
    let l = c.loop-x in
    zero_second l.c0 l.c1 _ (all_passed c.args.l.now l.x-index _ _ l.invariant.2 c.loop-x-test.false) (eq-eqb _ _ c.if-c0-eq0.true)

pub returns-else-c0-eq0 : goal.returns-else-c0-eq0
returns-else-c0-eq0 c =
    let l = c.loop-x in
    ne_eqb l.c0 0 c.if-c0-eq0.false ∙ zero_first l.c0 l.c1 _ (all_passed c.args.l.now l.x-index _ _ l.invariant.2 c.loop-x-test.false) (ne_eqb _ _ c.if-c0-eq0.false)
