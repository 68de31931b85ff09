-- What is written: a call that writes a file leaves the file, and after it what was there before, or nothing; and the test of the limits is
-- the limits, both ways.
-- Assumes nothing.
use Rattle.std.specs.Prelude.{ℕ, ◌<◌, ◌≡◌, refl, ◌⊎◌, Bool, true, false, ◌&&◌, ◌++◌, ltb, get_or, length, take, drop}
use Rattle.std.proofs.Common.{sym, ◌∙◌, inl, inr, arith, take_at, drop_at}
use Rattle.std.proofs.Math.Path.{subst}
use Rattle.std.proofs.lemmas.Bool.{false≢true}
use Rattle.std.proofs.Math.Option.{Option, none, some}
use Rattle.std.proofs.Math.ListN.{get_or-eq_default}
use borrow.Author.Tests.{ltb-true, ltb-false, lt-ltb, leb-true, le-leb}
use Rattle.lfa.specs.Network.{Network}
use Rattle.lfa.specs.File.{Bytes, byte_at}
use Rattle.lfa.specs.FileOf.{file_of, WithinLimits}
use Rattle.lfa.specs.Refusal.{FileRow, Decided, file_refusal}
use Rattle.lfa.specs.Writing.{entry_fits, head_fits, counts_fit, are_bytes, passes_rows, has_file, count_written, buffer_written, Written}
use Rattle.lfa.proofs.Laws.Test.{and_left, and_right, and_make, decide}
use Rattle.lfa.proofs.Laws.List.{every_gives, every_make}
use Rattle.lfa.proofs.Laws.FileRows.{accepted_passes_rows, load_accepted}
use Rattle.lfa.proofs.Laws.File.WrittenFile.{FewAttached, limits_few}
use Rattle.lfa.proofs.Laws.File.Written.{written_network}
use Rattle.lfa.proofs.Laws.Accepted.{written_accepted, accepted_limits}

-- ---- each part of the test

pub bytes_give : (b : Bytes) → are_bytes b ≡ true → (i : ℕ) → byte_at b i < 256
unfolding are_bytes byte_at
bytes_give b e i = go (decide (ltb i (length b)))
  where
    go : (ltb i (length b) ≡ true) ⊎ (ltb i (length b) ≡ false) → get_or b i 0 < 256
    go (inl t) = ltb-true _ _ (every_gives _ (length b) e i (ltb-true _ _ t))
    go (inr t) = omega (arith, get_or-eq_default b 0 (ltb-false i (length b) t))

pub bytes_make : (b : Bytes) → ((i : ℕ) → byte_at b i < 256) → are_bytes b ≡ true
unfolding are_bytes
bytes_make b h = every_make _ (length b) (λ i k. lt-ltb _ 256 (h i))

pub rows_give : (b : Bytes) → passes_rows b ≡ true → file_refusal b ≡ none
unfolding passes_rows
rows_give b e = go (file_refusal b) refl e
  where
    go : (o : Option (Decided FileRow)) → file_refusal b ≡ o → ◌≡◌ {A = Bool} (elim o as (λ _. Bool) [ none ↦ true | some d ↦ false ]) true →
        file_refusal b ≡ none
    go none p e = p
    go (some d) p e = absurd (false≢true e)

pub rows_make : (b : Bytes) → file_refusal b ≡ none → passes_rows b ≡ true
unfolding passes_rows
rows_make b e = rw (passes_rows, e)

-- ---- what a call that writes a file leaves

-- nothing is owed where the file may not be written ..
pub owes_nothing : {fits : Bool} {file : Bytes} (before : Bytes) → fits ≡ false → Written fits file 0 before before
unfolding count_written buffer_written
owes_nothing before e = record { count_right = sym (rw (count_written, e)); buffer_right = sym (rw (buffer_written, e)) }

-- .. and else the file
pub owes_file : {fits : Bool} (file before : Bytes) → fits ≡ true → Written fits file (length file) before (file ++ drop (length file) before)
unfolding count_written buffer_written
owes_file file before e = record { count_right = sym (rw (count_written, e)); buffer_right = sym (rw (buffer_written, e)) }

module _ {fits : Bool} {file : Bytes} {count : ℕ} {before after : Bytes} (w : Written fits file count before after) where
  -- where it may be written: the file, and after it what was there before ..
  pub written_whole : fits ≡ true → (count ≡ length file) × (after ≡ file ++ drop (length file) before)
  unfolding count_written buffer_written
  written_whole e = (w.count_right ∙ rw (count_written, e), w.buffer_right ∙ rw (buffer_written, e))

  -- .. and else nothing
  pub written_nothing : fits ≡ false → (count ≡ 0) × (after ≡ before)
  unfolding count_written buffer_written
  written_nothing e = (w.count_right ∙ rw (count_written, e), w.buffer_right ∙ rw (buffer_written, e))

  -- where a byte was written, the file was
  pub written_fits : 0 < count → fits ≡ true
  written_fits h = go (decide fits)
    where
      go : (fits ≡ true) ⊎ (fits ≡ false) → fits ≡ true
      go (inl t) = t
      go (inr t) = absurd (omega (arith, h, (written_nothing t).0))

  -- the bytes that were written are the file
  pub written_file : 0 < count → take count after ≡ file
  written_file h =
      let e = written_whole (written_fits h) in
      rw (e.0, e.1) (take_at file (drop (length file) before) (length file) refl)

  -- and those after them are as before
  pub written_rest : drop count after ≡ drop count before
  written_rest = go (decide fits)
    where
      go : (fits ≡ true) ⊎ (fits ≡ false) → drop count after ≡ drop count before
      go (inl t) = let e = written_whole t in rw (e.0, e.1) (drop_at file (drop (length file) before) (length file) refl)
      go (inr t) = let e = written_nothing t in rw e.1 refl

module _ (net : Network) where
  counts_few : counts_fit net ≡ true → FewAttached net
  unfolding counts_fit
  counts_few e k h = leb-true _ 8 (every_gives (entry_fits net) (length net.prefixes) (and_right (head_fits net) _ e) k h)

  limits_head : WithinLimits net → head_fits net ≡ true
  unfolding head_fits
  limits_head w =
      and_make _ _ (and_make _ _ (le-leb _ _ w.few_routers) (le-leb _ _ w.few_links)) (le-leb _ _ w.few_prefixes)

  limits_counts : WithinLimits net → counts_fit net ≡ true
  unfolding counts_fit
  limits_counts w = and_make _ _ (limits_head w) (every_make (entry_fits net) (length net.prefixes) (λ k h. le-leb _ 8 (limits_few net w k h)))

  -- ---- the test of the limits is the limits

  -- A network that has a file is within the limits: each prefix fits into its entry, so the file holds this network, and what an accepted
  -- file holds is within the limits.
  pub has_limits : has_file net ≡ true → WithinLimits net
  unfolding has_file
  has_limits e =
      let front = and_left (counts_fit net && are_bytes (file_of net)) (passes_rows (file_of net)) e in
      let few = counts_few (and_left (counts_fit net) (are_bytes (file_of net)) front) in
      let bytes = bytes_give (file_of net) (and_right (counts_fit net) (are_bytes (file_of net)) front) in
      let rows = rows_give (file_of net) (and_right (counts_fit net && are_bytes (file_of net)) (passes_rows (file_of net)) e) in
      subst WithinLimits (written_network net few) (accepted_limits (file_of net) (load_accepted (file_of net) bytes rows))

  -- And a network within them has one: its file is accepted.
  pub limits_have : WithinLimits net → has_file net ≡ true
  unfolding has_file
  limits_have w =
      let a = written_accepted net w in
      and_make _ _ (and_make _ _ (limits_counts w) (bytes_make (file_of net) a.bytes))
      (rows_make (file_of net) (accepted_passes_rows (file_of net) a))
