-- The members of a set, ascending: the search for one of them, and how many there are.
-- Assumes nothing.
use Prim.Native.Nat.{ℕ, zero, suc, ◌+◌, ◌-◌, ◌/◌, ◌^◌, ◌<◌}
use mathlib.Core.Path.{◌≡◌, refl, sym, ap, ap₂, ◌∙◌}
use mathlib.Core.Bool.{Bool, true, false}
use mathlib.Core.List.{List, [], ◌∷◌}
use native.Mathlib.Numerals.{add-one}
use native.Mathlib.Omega.{arith}
use lib.ListN.{length, get_or, length-append}
use lib.Bits.{bit_and}
use lib.Count.{ones}
use Rattle.lfa.specs.Lists.{count_up, below, keep_if, select, count, one}
use Rattle.lfa.specs.Space.{has, size_of}
use Rattle.lfa.proofs.Laws.Set.{size_ones}
use Rattle.metric.proofs.Laws.List.{below_more, select_append}
use Rattle.metric.proofs.Laws.Set.{has_bit, has_no_bit}
use Rattle.options.specs.Options.{members_of}

-- ---- the search for a member

-- the numbers from r to 63
count_front : (r : ℕ) → r < 64 → count_up r (64 - r) ≡ r ∷ count_up (r + 1) (64 - (r + 1))
unfolding count_up
count_front r h =
    let e : 64 - r ≡ suc (64 - (r + 1)) = omega arith in
    ap (count_up r) e ∙ ap (λ (k : ℕ). r ∷ count_up k (64 - (r + 1))) (sym (add-one r))

-- the members from r on
abbrev pub from : ℕ → ℕ → List ℕ
from set r = select (has set) (count_up r (64 - r))

pub from_all : (set : ℕ) → from set 0 ≡ members_of set
unfolding members_of below
from_all set = refl

pub from_none : (set : ℕ) → from set 64 ≡ []
unfolding count_up select
from_none set = refl

module _ (set r : ℕ) (h : r < 64) where
  pub from_member : bit_and (set / 2 ^ r) 1 ≡ 1 → from set r ≡ r ∷ from set (r + 1)
  unfolding select
  from_member e = ap (select (has set)) (count_front r h) ∙ ap (λ (b : Bool). keep_if b r (from set (r + 1))) (has_bit set r e)

  pub from_other : (bit_and (set / 2 ^ r) 1 ≡ 1 → ⊥) → from set r ≡ from set (r + 1)
  unfolding select
  from_other e = ap (select (has set)) (count_front r h) ∙ ap (λ (b : Bool). keep_if b r (from set (r + 1))) (has_no_bit set r e)

  -- the search for the member with `left` members before it
  module _ (left : ℕ) {m : ℕ} (sought : get_or (from set r) left 0 ≡ m) where
    pub member_found : bit_and (set / 2 ^ r) 1 ≡ 1 → left ≡ 0 → r ≡ m
    member_found e z = sym (ap₂ (λ (l : List ℕ) (i : ℕ). get_or l i 0) (from_member e) z) ∙ sought

    pub member_passed : bit_and (set / 2 ^ r) 1 ≡ 1 → (left ≡ 0 → ⊥) → get_or (from set (r + 1)) (left - 1) 0 ≡ m
    member_passed e h = sym (ap₂ (λ (l : List ℕ) (i : ℕ). get_or l i 0) (from_member e) (let k : left ≡ suc (left - 1) = omega arith in k)) ∙ sought

    pub member_other : (bit_and (set / 2 ^ r) 1 ≡ 1 → ⊥) → get_or (from set (r + 1)) left 0 ≡ m
    member_other e = sym (ap (λ (l : List ℕ). get_or l left 0) (from_other e)) ∙ sought

pub member_none : {r m : ℕ} (set left : ℕ) → r ≡ 64 → get_or (from set r) left 0 ≡ m → 0 ≡ m
member_none {r} set left e sought = sym (ap (λ (i : ℕ). get_or (from set i) left 0) e ∙ ap (λ (l : List ℕ). get_or l left 0) (from_none set)) ∙ sought

-- ---- how many members there are

-- as many as the test passes
length_keep : (b : Bool) (x : ℕ) → length (keep_if b x []) ≡ one b
length_keep true x = refl
length_keep false x = refl

select_last : (p : ℕ → Bool) (n : ℕ) → length (select p (n ∷ [])) ≡ one (p n)
unfolding select
select_last p n = length_keep (p n) n

select_count : (p : ℕ → Bool) (n : ℕ) → length (select p (below n)) ≡ count p n
unfolding count below count_up select
select_count p zero = refl
select_count p (suc n) =
    ap (λ (k : ℕ). length (select p (below k))) (sym (add-one n)) ∙ ap (λ (l : List ℕ). length (select p l)) (below_more n)
    ∙ ap length (select_append p (below n) (n ∷ [])) ∙ length-append (select p (below n)) (select p (n ∷ []))
    ∙ ap₂ (λ (a b : ℕ). a + b) (select_count p n) (select_last p n) ∙ omega arith

-- the number of ones of a set is that of its members
pub members_count : (set : ℕ) → set < 2 ^ 64 → ones set ≡ length (members_of set)
unfolding members_of size_of
members_count set h = size_ones set h ∙ sym (select_count (has set) 64)
