-- `Posed` means that no row before 14 applies: each of its fields is one row, where the call has the row's input.
-- Assumes nothing.
use Rattle.std.specs.Prelude.{ℕ, ◌≤◌, ◌<◌, ◌≡◌, refl, ◌⊎◌, ◌↔◌, true, false, leb}
use Rattle.std.proofs.Common.{inl, inr, arith, leb-true, leb-false}
use mathlib.Core.List.{List, Memᴰ}
use Rattle.lfa.specs.File.{byte_at, links_of, network_of}
use Rattle.lfa.specs.Ranks.{Arrangement, is_arrangement}
use Rattle.lfa.specs.Question.{Question, network_asked}
use Rattle.lfa.specs.Refusal.{EarlyRow, short_area, wrong_table, short_buffer, bad_ranks, no_such_link, no_such_prefix, EarlyApplies, Row, of_file, early, no_pair, Applies, entry_of, tries, tries_early, rows_tried, Accepted, Posed}
use Rattle.lfa.proofs.Laws.Test.{decide}
use Rattle.lfa.proofs.Laws.Ranks.{arrangement_gives, no_arrangement}
use Rattle.lfa.proofs.Laws.Holds.{holds_stable}
use Rattle.lfa.proofs.Laws.FileRows.{tries_file, tried_rows}
use Rattle.lfa.proofs.Laws.Accepted.{link_count, prefix_count}

-- a number is at most another unless it is greater
at_most : (a b : ℕ) → (b < a → ⊥) → a ≤ b
at_most a b h = go (decide (leb a b))
  where
    go : (leb a b ≡ true) ⊎ (leb a b ≡ false) → a ≤ b
    go (inl t) = leb-true a b t
    go (inr t) = absurd (h (leb-false a b t))

-- a table is an arrangement unless it is none
stable : (ranks : List ℕ) → ((Arrangement ranks → ⊥) → ⊥) → Arrangement ranks
stable ranks h = go (decide (is_arrangement ranks))
  where
    go : (is_arrangement ranks ≡ true) ⊎ (is_arrangement ranks ≡ false) → Arrangement ranks
    go (inl t) = arrangement_gives ranks t
    go (inr t) = absurd (h ((no_arrangement ranks).0 t))

-- ---- row by row: the only place where the fields are taken apart or put together

-- no early row that the call tries applies
abbrev pub NoEarlyRow : Question → Type 0
NoEarlyRow q = (r : EarlyRow) (v : ℕ) → tries_early q.call r ≡ true → EarlyApplies q r v → ⊥

pub posed_passes : (q : Question) → Posed q → NoEarlyRow q
unfolding tries entry_of network_asked network_of
posed_passes q p short_area v t a = let h = p.cells t in omega (arith, a.0)
posed_passes q p wrong_table v t a = a.0 (p.table t)
posed_passes q p short_buffer v t a = let h = p.buffer t in omega (arith, a.0)
posed_passes q p bad_ranks v t a = a.0 (p.ranks t)
posed_passes q p no_such_link v t a = go a.0
  where
    go : (links_of q.file ≤ q.link) ⊎ (1 < q.end) → ⊥
    go (inl h) = omega (arith, p.link t, link_count q.file p.file)
    go (inr h) = omega (arith, p.end t)
posed_passes q p no_such_prefix v t a = omega (arith, a.0, p.prefix t, prefix_count q.file p.file)

pub passes_posed : (q : Question) → Accepted q.file → NoEarlyRow q → Posed q
unfolding tries entry_of network_asked network_of
passes_posed q accepted passes = record {
  file = accepted;
  cells = λ t. at_most _ _ (λ s. passes short_area _ t (s, refl));
  table = λ t. holds_stable (network_asked q) q.table (λ no. passes wrong_table _ t (no, refl));
  buffer = λ t. at_most _ _ (λ s. passes short_buffer _ t (s, refl));
  ranks = λ t. stable q.ranks (λ no. passes bad_ranks _ t (no, refl));
  link = λ t. rw (link_count q.file accepted) (at_most _ _ (λ s. passes no_such_link _ t (inl (omega (arith, s)), refl)));
  end = λ t. at_most _ _ (λ s. passes no_such_link _ t (inr s, refl));
  prefix = λ t. rw (prefix_count q.file accepted) (at_most _ _ (λ s. passes no_such_prefix _ t (omega (arith, s), refl)));
}

-- ---- all rows before 14

-- no row before 14 that the call tries applies
abbrev NoRowBefore : Question → Type 0
NoRowBefore q = (r : Row) (v : ℕ) → Memᴰ r (rows_tried q.call) → (r ≡ no_pair → ⊥) → Applies q r v → ⊥

posed_all : (q : Question) → Posed q → NoRowBefore q
unfolding tries
posed_all q p (of_file r) v m n a = p.file.none_applies r v a
posed_all q p (early r) v m n a = posed_passes q p r v ((tried_rows q.call (early r)).0 m) a
posed_all q p no_pair v m n a = n refl

module _ (q : Question) (bytes : (i : ℕ) → byte_at q.file i < 256) (h : NoRowBefore q) where
  -- a row that the call tries does not apply
  passes : (r : Row) (v : ℕ) → (r ≡ no_pair → ⊥) → tries q.call r ≡ true → Applies q r v → ⊥
  unfolding tries
  passes r v n t a = h r v ((tried_rows q.call r).1 t) n a

  all_posed : Posed q
  all_posed =
      passes_posed q
      (record { bytes = bytes; none_applies = λ r v. passes (of_file r) v (λ e. absurd (let z : ◌≡◌ {A = ℕ} 0 1 = cc in omega arith)) (tries_file q.call r) })
      (λ r v. passes (early r) v (λ e. absurd (let z : ◌≡◌ {A = ℕ} 0 1 = cc in omega arith)))

pub posed_when : (q : Question) → ((i : ℕ) → byte_at q.file i < 256) → Posed q ↔ NoRowBefore q
posed_when q bytes = (posed_all q, all_posed q bytes)
