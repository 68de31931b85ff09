-- What `write` leaves, from what it tests: the counts, the reader's verdict, and the length of the buffer.
-- Assumes nothing.
use Prim.Native.Nat.{ℕ, ◌+◌, ◌≤◌, ◌<◌}
use mathlib.Core.Path.{◌≡◌, refl, sym, ap, ◌∙◌}
use mathlib.Core.Bool.{Bool, true, false, ◌&&◌}
use native.Mathlib.Omega.{arith}
use lib.Dec.{leb}
use lib.ListN.{length, get_or, take}
use lib.Seq.{length-take-le}
use Rattle.std.proofs.lemmas.List.{get_or-take}
use borrow.Author.Tests.{leb-true, le-leb, lt-leb}
use Rattle.lfa.specs.Lists.{every_below}
use Rattle.lfa.specs.Network as lfa
use Rattle.lfa.specs.File.{Bytes, byte_at}
use Rattle.lfa.specs.FileOf.{file_of}
use Rattle.lfa.specs.Refusal.{file_refusal}
use Rattle.lfa.specs.Writing.{entry_fits, head_fits, counts_fit, are_bytes, passes_rows, has_file, file_fits, Wrote}
use Rattle.lfa.proofs.Laws.Test.{and_left, and_right, and_make, fails_left, fails_right, same_test}
use Rattle.lfa.proofs.Laws.List.{every_gives, every_make}
use Rattle.lfa.proofs.Laws.Writing.{owes_nothing, owes_file, bytes_make}
use Rattle.std.specs.Prelude.{Result, Ok, Err, ⊤, is_ok}
use Rattle.network_file.specs.declared.Fault.{Fault}
use Rattle.network_file.specs.declared.network.Network.{Network}
use Rattle.network_file.specs.Load.{verdict_decided}
use Rattle.network_file.specs.Held.{network_held}
use Rattle.writer.specs.Put.{put_at}
use Rattle.writer.specs.File.{Small}
use Rattle.writer.proofs.ComposeLaws.{links_held, prefixes_held, prefix_held}

-- the reader's verdict tells whether a row turns the file away
module _ (b : Bytes) (v : Result ⊤ Fault) (e : verdict_decided v ≡ file_refusal b) where
  pub passed : is_ok v ≡ true → passes_rows b ≡ true
  unfolding passes_rows verdict_decided
  passed h = go v e h
    where
      go : (v : Result ⊤ Fault) → verdict_decided v ≡ file_refusal b → is_ok v ≡ true → passes_rows b ≡ true
      go (Ok x) e h = rw (passes_rows, ← e)
      go (Err f) e h = cc

  pub turned_away : is_ok v ≡ false → passes_rows b ≡ false
  unfolding passes_rows verdict_decided
  turned_away h = go v e h
    where
      go : (v : Result ⊤ Fault) → verdict_decided v ≡ file_refusal b → is_ok v ≡ false → passes_rows b ≡ false
      go (Ok x) e h = cc
      go (Err f) e h = rw (passes_rows, ← e)

-- ---- counts

module _ (s : Network) where
  -- the tests of the columns
  abbrev entries_fit : Bool
  entries_fit = every_below (λ p. leb (get_or s.attached p 0) 8) s.links.prefixes

  -- the code tests the counts of the prefixes, as a list of their own
  abbrev first_fits : ℕ → Bool
  first_fits p = leb (get_or (take s.links.prefixes s.attached) p 0) 8

  first_same : every_below first_fits s.links.prefixes ≡ entries_fit
  first_same = same_test _ _
      (λ e. every_make _ s.links.prefixes (λ p h. rw (get_or-take s.links.prefixes s.attached p 0 h) at (every_gives first_fits s.links.prefixes e p h)))
      (λ e. every_make first_fits s.links.prefixes (λ p h. rw (get_or-take s.links.prefixes s.attached p 0 h) (every_gives _ s.links.prefixes e p h)))

  entries_same : every_below (entry_fits (network_held s)) s.links.prefixes ≡ entries_fit
  entries_same = same_test _ _
      (λ e. every_make _ s.links.prefixes (λ p h. rw (prefix_held s p h) at (every_gives (entry_fits (network_held s)) s.links.prefixes e p h)))
      (λ e. every_make (entry_fits (network_held s)) s.links.prefixes (λ p h. rw (prefix_held s p h) (every_gives _ s.links.prefixes e p h)))

  counts_are : counts_fit (network_held s) ≡ (leb s.links.routers 64 && leb s.links.links 128 && leb s.links.prefixes 128 && entries_fit)
  unfolding counts_fit head_fits
  counts_are = rw (links_held s, prefixes_held s, entries_same) (unfold network_held in refl)

  pub counts_small : counts_fit (network_held s) ≡ true → Small s
  counts_small e =
      let all = sym counts_are ∙ e in
      let front = and_left (leb s.links.routers 64 && leb s.links.links 128 && leb s.links.prefixes 128) entries_fit all in
      let two = and_left (leb s.links.routers 64 && leb s.links.links 128) (leb s.links.prefixes 128) front in
      record {
        few_routers = leb-true _ 64 (and_left (leb s.links.routers 64) (leb s.links.links 128) two);
        few_links = leb-true _ 128 (and_right (leb s.links.routers 64) (leb s.links.links 128) two);
        few_prefixes = leb-true _ 128 (and_right (leb s.links.routers 64 && leb s.links.links 128) (leb s.links.prefixes 128) front);
        few_attached = λ p h. leb-true _ 8 (every_gives (λ p. leb (get_or s.attached p 0) 8) s.links.prefixes
            (and_right (leb s.links.routers 64 && leb s.links.links 128 && leb s.links.prefixes 128) entries_fit all) p h);
      }

  pub many_routers : 64 < s.links.routers → false ≡ counts_fit (network_held s)
  many_routers h = sym (counts_are ∙ rw (lt-leb s.links.routers 64 h))

  pub many_links : 128 < s.links.links → false ≡ counts_fit (network_held s)
  many_links h =
      let links = fails_right (leb s.links.routers 64) _ (lt-leb s.links.links 128 h) in
      sym (counts_are ∙ fails_left _ entries_fit (fails_left _ (leb s.links.prefixes 128) links))

  pub many_prefixes : 128 < s.links.prefixes → false ≡ counts_fit (network_held s)
  many_prefixes h =
      let prefixes = fails_right (leb s.links.routers 64 && leb s.links.links 128) _ (lt-leb s.links.prefixes 128 h) in
      sym (counts_are ∙ fails_left _ entries_fit prefixes)

  pub few_counted : (r : Bool) → length s.attached ≡ 128 → s.links.routers ≤ 64 → s.links.links ≤ 128 → s.links.prefixes ≤ 128 →
      r ≡ every_below first_fits (length (take s.links.prefixes s.attached)) →
      r ≡ counts_fit (network_held s)
  few_counted r long few-r few-l few-p e =
      let n : length (take s.links.prefixes s.attached) ≡ s.links.prefixes = length-take-le s.links.prefixes s.attached (omega arith) in
      rw n at e ∙ first_same ∙ sym (counts_are ∙ rw (le-leb s.links.routers 64 few-r, le-leb s.links.links 128 few-l, le-leb s.links.prefixes 128 few-p))

-- ---- what is left

module _ (net : lfa.Network) (before : Bytes) where
  nothing : file_fits net (length before) ≡ false → Wrote net 0 before before
  nothing e = owes_nothing before e

  -- the counts do not fit, a row applies, or the buffer is shorter
  pub counts_fail : counts_fit net ≡ false → Wrote net 0 before before
  unfolding file_fits has_file
  counts_fail e = nothing (fails_left _ _ (fails_left _ _ (fails_left _ (are_bytes (file_of net)) e)))

  pub rows_fail : passes_rows (file_of net) ≡ false → Wrote net 0 before before
  unfolding file_fits has_file
  rows_fail e = nothing (fails_left _ _ (fails_right (counts_fit net && are_bytes (file_of net)) _ e))

  pub too_short : length before < length (file_of net) → Wrote net 0 before before
  unfolding file_fits
  too_short h = nothing (fails_right (has_file net) _ (lt-leb _ _ h))

  -- or all is well
  pub all_written : counts_fit net ≡ true → are_bytes (file_of net) ≡ true → passes_rows (file_of net) ≡ true →
      length (file_of net) ≤ length before →
      Wrote net (length (file_of net)) before (put_at 0 (file_of net) before)
  unfolding put_at file_fits has_file
  all_written counts bytes rows fits =
      let e : file_fits net (length before) ≡ true = and_make _ _ (and_make _ _ (and_make _ _ counts bytes) rows) (le-leb _ _ fits) in
      let z : 0 + length (file_of net) ≡ length (file_of net) = omega arith in
      rw z (owes_file (file_of net) before e)

-- The same of the file as it was put together: a row applies, the buffer is shorter, or all is well.
module _ (file before : Bytes) (net : lfa.Network) (is : file ≡ file_of net) where
  pub refused : passes_rows file ≡ false → Wrote net 0 before before
  refused e = rows_fail net before (rw is at e)

  pub shorter : length before < length file → Wrote net 0 before before
  shorter h = too_short net before (omega (arith, ap length is))

  pub accepted : (after : Bytes) → counts_fit net ≡ true → ((i : ℕ) → get_or file i 0 < 256) → passes_rows file ≡ true →
      length file ≤ length before →
      after ≡ put_at 0 file before → Wrote net (length file) before after
  unfolding byte_at
  accepted after counts bytes rows fits put =
      let w = all_written net before counts (bytes_make (file_of net) (λ i. rw (← is) (bytes i))) (rw is at rows)
      (omega (arith, ap length is)) in
      rw (put, is) w
