-- The loop that looks for the first number at which a test fails, and answers it, or its end where none fails: for any test, any start
-- and any end. `Laws/First` of `block` says the same of a loop that answers an `Option`, for rows 2 and 5 to 9.
-- Assumes nothing.
use Rattle.std.specs.Prelude.{ℕ, suc, ◌+◌, ◌-◌, ◌≤◌, ◌<◌, ◌≡◌, Bool, true, false}
use Rattle.std.proofs.Common.{refl, sym, ap, ◌∙◌, arith, add-one}
use Rattle.std.proofs.Math.Option.{Option, none, some}
use Rattle.lfa.specs.Lists.{first_failing}
use Rattle.lfa.proofs.Laws.FirstFailing.{first_failing_lem}
use Rattle.check_forms.specs.FirstOr.{first_or}

-- The loop tries `count` numbers from `start` on, up to `end`.
module _ (good : ℕ → Bool) (start count end : ℕ) where
  -- What the invariant says at number i: the test passed at each number before, so that what is looked for from `start` on is
  -- what is looked for from i on.
  pub record Searching (i : ℕ) : Type 0 where
    pub from : start ≤ i
    pub within : i ≤ end
    pub same : first_failing good start count ≡ first_failing good i (end - i)

  -- the loop begins
  pub search_starts : start + count ≡ end → Searching start
  search_starts e = let k : count ≡ end - start = omega arith in record { from = omega arith; within = omega arith; same = ap (first_failing good start) k }

  -- the test passes at i: the search goes on at the next number
  pub search_passed : (i : ℕ) → Searching i → i < end → good i ≡ true → Searching (i + 1)
  unfolding first_failing
  search_passed i s h e =
      let k : end - i ≡ suc (end - (i + 1)) = omega arith in
      let next : first_failing good i (end - i) ≡ first_failing good (i + 1) (end - (i + 1)) = rw (k, first_failing, e, add-one i) in
      record { from = omega (arith, s.from); within = omega arith; same = s.same ∙ next }

  -- the test fails at i: that is the number looked for
  pub search_found : (i : ℕ) → Searching i → i < end → good i ≡ false → i ≡ first_or end (first_failing good start count)
  unfolding first_failing first_or
  search_found i s h e =
      let k : end - i ≡ suc (end - (i + 1)) = omega arith in
      let here : first_failing good i (end - i) ≡ some i = rw (k, first_failing, e) in
      sym (ap (first_or end) (s.same ∙ here))

  -- the end is reached: there is none
  pub search_none : (i : ℕ) → Searching i → end ≤ i → end ≡ first_or end (first_failing good start count)
  unfolding first_failing first_or
  search_none i s h =
      let k : end - i ≡ 0 = omega arith in
      let here : first_failing good i (end - i) ≡ none = rw k in
      sym (ap (first_or end) (s.same ∙ here))

  -- ---- what the loop's answer tells its caller

  -- an answer below the end is the first number at which the test fails
  pub answer_found : (r : ℕ) → r ≡ first_or end (first_failing good start count) → r < end → first_failing good start count ≡ some r
  unfolding first_or
  answer_found r e h = go (first_failing good start count) refl e
    where
      go : (o : Option ℕ) → first_failing good start count ≡ o → r ≡ first_or end o → first_failing good start count ≡ some r
      go none p q = absurd (omega arith)
      go (some k) p q = p ∙ ap some (sym q)

  -- any other says that the test fails nowhere
  pub answer_none : (r : ℕ) → start + count ≡ end → r ≡ first_or end (first_failing good start count) → end ≤ r → first_failing good start count ≡ none
  unfolding first_or
  answer_none r room e h = go (first_failing good start count) refl e
    where
      go : (o : Option ℕ) → first_failing good start count ≡ o → r ≡ first_or end o → first_failing good start count ≡ none
      go none p q = p
      go (some k) p q = absurd (omega (arith, (first_failing_lem good start count k p).to))
