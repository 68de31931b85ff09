-- The test of a table of ranks decides whether it is an arrangement, and ascending ranks are the classes themselves.
-- Assumes nothing.
use Rattle.std.specs.Prelude.{ℕ, zero, suc, ◌<◌, ◌≡◌, refl, ◌↔◌, true, false, List}
use Rattle.std.proofs.Common.{sym, ◌∙◌, true≢false, arith}
use Rattle.std.proofs.Math.Dec.{eqb}
use Rattle.std.proofs.Math.ListN.{length}
use borrow.Author.Tests.{eqb-true, eq-eqb}
use Rattle.lfa.specs.Lists.{every_below, count, HowMany}
use Rattle.lfa.specs.Ranks.{classes, rank_of, Arrangement, ascending, times_given, is_arrangement}
use Rattle.lfa.specs.Demands.{EightRanks}
use Rattle.lfa.proofs.Laws.Test.{and_left, and_right, and_make, fails_make}
use Rattle.lfa.proofs.Laws.List.{every_gives, every_make}
use Rattle.lfa.proofs.Laws.Counting.{counted_holds, holds_once}

module _ (ranks : List ℕ) where
  given : (k : ℕ) → HowMany (λ class. rank_of ranks class ≡ k) (length ranks) (times_given ranks k)
  unfolding times_given
  given k = counted_holds (λ class. eqb (rank_of ranks class) k) (length ranks) (λ class h. (eqb-true (rank_of ranks class) k, eq-eqb (rank_of ranks class) k))

  pub arrangement_gives : is_arrangement ranks ≡ true → Arrangement ranks
  unfolding is_arrangement
  arrangement_gives e =
      let whole : length ranks ≡ classes = eqb-true _ _ (and_left _ _ e) in
      record {
        for_each_class = whole;
        once_each = λ k h.
            let once : times_given ranks k ≡ 1 = eqb-true _ _ (every_gives (λ k. eqb (times_given ranks k) 1) classes (and_right (eqb (length ranks) classes) _ e) k h) in
            rw (whole, once) at (given k);
      }

  pub arrangement_make : Arrangement ranks → is_arrangement ranks ≡ true
  unfolding is_arrangement
  arrangement_make a =
      and_make _ _ (eq-eqb _ _ a.for_each_class)
      (every_make (λ k. eqb (times_given ranks k) 1) classes (λ k h. eq-eqb _ _ (holds_once (given k) (rw a.for_each_class (a.once_each k h)))))

  -- the test fails exactly where the table is no arrangement
  pub no_arrangement : (is_arrangement ranks ≡ false) ↔ (Arrangement ranks → ⊥)
  no_arrangement = (λ e a. true≢false (sym (arrangement_make a) ∙ e), λ no. fails_make (is_arrangement ranks) (λ e. no (arrangement_gives e)))

pub ascending_rank : (class : ℕ) → class < classes → rank_of ascending class ≡ class
ascending_rank zero h = refl
ascending_rank (suc zero) h = refl
ascending_rank (suc (suc zero)) h = refl
ascending_rank (suc (suc (suc zero))) h = refl
ascending_rank (suc (suc (suc (suc zero)))) h = refl
ascending_rank (suc (suc (suc (suc (suc zero))))) h = refl
ascending_rank (suc (suc (suc (suc (suc (suc zero)))))) h = refl
ascending_rank (suc (suc (suc (suc (suc (suc (suc zero))))))) h = refl
ascending_rank (suc (suc (suc (suc (suc (suc (suc (suc class)))))))) h = absurd (omega (arith, h))

pub eight_ranks : EightRanks
unfolding is_arrangement times_given every_below count
eight_ranks = record {
  once_each = λ ranks. (λ a. (a.for_each_class, λ k h. a.once_each k (omega arith)), λ p. record { for_each_class = p.0; once_each = λ k h. p.1 k (omega arith) });
  ascending_is = λ class h. ascending_rank class (omega arith);
  ascending_arranged = arrangement_gives ascending refl;
}
