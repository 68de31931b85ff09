-- Point 6 is kept. Each answer is one of three (`Laws.Import.outcome`), the network of a run is the one that it means, and what is written
-- of it is what document 01's laws of writing and reading are about.
-- Assumes nothing.
use Rattle.std.specs.Prelude.{ℕ, ◌≤◌, ◌<◌, ◌≡◌, refl, ◌⊎◌, Bool, true, false, length}
use Rattle.std.proofs.Common.{sym, ap, subst, ◌∙◌, inl, inr, arith}
use borrow.Author.Tests.{leb-true, leb-false, le-leb}
use Rattle.lfa.specs.Network.{Network}
use Rattle.lfa.specs.File.{Bytes}
use Rattle.lfa.specs.FileOf.{file_of, WithinLimits}
use Rattle.lfa.specs.Writing.{has_file, count_written, buffer_written, Written, file_fits}
use Rattle.lfa.proofs.Laws.Test.{and_left, and_right, and_make, and_false, fails_make}
use Rattle.lfa.proofs.Laws.Writing.{has_limits, limits_have}
use Rattle.lfa.proofs.Laws.Point13.{point_13}
use Rattle.ospf.specs.Run.{FirstBad}
use Rattle.ospf.specs.Import.{network_of, ImportAnswer, refused, written, import_answer, is_written, import_exit}
use Rattle.ospf.specs.Promises.{RunMeans, count_of, Point6}
use Rattle.ospf.proofs.Laws.Run.{bad_scanned, whole_scanned, run_whole}
use Rattle.ospf.proofs.Laws.Import.{meant_network, Outcome, is_bad, not_written, is_written_lem, answer_for, bad_answer, whole_answer, outcome}

-- ---- whether the file of a network may be written: it is within the limits and its file fits

module _ (net : Network) (size : ℕ) where
  fits_gives : file_fits net size ≡ true → WithinLimits net × (length (file_of net) ≤ size)
  unfolding file_fits
  fits_gives t = (has_limits net (and_left (has_file net) _ t), leb-true _ _ (and_right (has_file net) _ t))

  fits_make : WithinLimits net → length (file_of net) ≤ size → file_fits net size ≡ true
  unfolding file_fits
  fits_make w h = and_make _ _ (limits_have net w) (le-leb (length (file_of net)) size h)

  fails_by : file_fits net size ≡ false → WithinLimits net → size < length (file_of net)
  unfolding file_fits
  fails_by f w = leb-false (length (file_of net)) size (and_false (has_file net) _ f (limits_have net w))

  fails_when : (WithinLimits net → size < length (file_of net)) → file_fits net size ≡ false
  fails_when h = fails_make (file_fits net size) (λ t. let g = fits_gives t in let k = h g.0 in omega (arith, g.1))

-- ---- the numbers

module _ (run : Bytes) (size : ℕ) where
  gives_16 : (k : ℕ) (a : ImportAnswer) → Outcome run size a → a ≡ refused 16 k → FirstBad run k
  gives_16 k a (is_bad {k = j} f) e = let p : j ≡ k = cc in subst (FirstBad run) p f
  gives_16 k a (not_written m t) e = let z : ◌≡◌ {A = ℕ} 17 16 = cc in absurd (omega arith)
  gives_16 k a (is_written_lem m t) e = let z : ◌≡◌ {A = ℕ} 0 1 = cc in absurd (omega arith)

  abbrev Unwritten : ℕ → Type 0
  Unwritten value = (net : Network) × RunMeans run net × (value ≡ 0) × (WithinLimits net → size < length (file_of net))

  gives_17 : (v : ℕ) (a : ImportAnswer) → Outcome run size a → a ≡ refused 17 v → Unwritten v
  gives_17 v a (is_bad f) e = let z : ◌≡◌ {A = ℕ} 16 17 = cc in absurd (omega arith)
  gives_17 v a (not_written m t) e = let z : v ≡ 0 = cc in (network_of run, m, z, fails_by (network_of run) size t)
  gives_17 v a (is_written_lem m t) e = let z : ◌≡◌ {A = ℕ} 0 1 = cc in absurd (omega arith)

  -- a run that means a network is answered by whether its file may be written
  meant_answer : (net : Network) → RunMeans run net → (t : Bool) → file_fits net size ≡ t →
      import_answer run size ≡ answer_for t net
  meant_answer net r t f =
      let e = meant_network run net r in
      whole_answer run size r.lsas t (whole_scanned run r.lsas r.whole) (rw e f) ∙ ap (answer_for t) e

  makes_17 : (v : ℕ) → Unwritten v → import_answer run size ≡ refused 17 v
  makes_17 v (net, r, z, h) = rw z (meant_answer net r false (fails_when net size h))

  only_two : (number v : ℕ) (a : ImportAnswer) → Outcome run size a → a ≡ refused number v → (number ≡ 16) ⊎ (number ≡ 17)
  only_two number v a (is_bad f) e = inl (cc)
  only_two number v a (not_written m t) e = inr (cc)
  only_two number v a (is_written_lem m t) e = let z : ◌≡◌ {A = ℕ} 0 1 = cc in absurd (omega arith)

  abbrev IsWritten : ℕ → Type 0
  IsWritten count = (net : Network) × RunMeans run net × WithinLimits net × (count ≡ length (file_of net)) × (length (file_of net) ≤ size)

  gives_written : (count : ℕ) (a : ImportAnswer) → Outcome run size a → a ≡ written count → IsWritten count
  gives_written count a (is_bad f) e = let z : ◌≡◌ {A = ℕ} 0 1 = cc in absurd (omega arith)
  gives_written count a (not_written m t) e = let z : ◌≡◌ {A = ℕ} 0 1 = cc in absurd (omega arith)
  gives_written count a (is_written_lem m t) e =
      let z : count ≡ length (file_of (network_of run)) = cc in
      let g = fits_gives (network_of run) size t in
      (network_of run, m, g.0, z, g.1)

  makes_written : (count : ℕ) → IsWritten count → import_answer run size ≡ written count
  makes_written count (net, r, w, z, h) = rw z (meant_answer net r true (fits_make net size w h))

-- what the run is, by any answer
is_either : (run : Bytes) {size : ℕ} {a : ImportAnswer} → Outcome run size a → ((k : ℕ) × FirstBad run k) ⊎ ((net : Network) × RunMeans run net)
is_either run (is_bad {k} f) = inl (k, f)
is_either run (not_written m t) = inr (network_of run, m)
is_either run (is_written_lem m t) = inr (network_of run, m)

-- ---- the buffer

exit_refused : (run before : Bytes) (number value : ℕ) → import_answer run (length before) ≡ refused number value → import_exit run before ≡ before
unfolding import_exit is_written buffer_written
exit_refused run before number value e = rw (e, import_exit)

-- What is returned and what is left is what a call owes that writes the network.
owes : (run before : Bytes) (net : Network) → RunMeans run net →
    Written (file_fits net (length before)) (file_of net) (count_of (import_answer run (length before))) before (import_exit run before)
unfolding count_of count_written import_exit is_written
owes run before net r = go (file_fits net (length before)) refl
  where
    go : (t : Bool) → file_fits net (length before) ≡ t → Written t (file_of net) (count_of (import_answer run (length before))) before (import_exit run before)
    go true t =
        let a = meant_answer run (length before) net r true t in
        record { count_right = ap count_of a; buffer_right = rw (import_exit, a, meant_network run net r) refl }
    go false t =
        let a = meant_answer run (length before) net r false t in
        record { count_right = ap count_of a; buffer_right = rw (import_exit, a, meant_network run net r) refl }

-- Point 6's promises hold, for every run and every buffer.
pub point_6 : Point6
point_6 = record {
  bad_or_meant = λ run. is_either run (outcome run 0);
  end_to_end = run_whole;
  one_network = λ run net other r s. sym (meant_network run net r) ∙ meant_network run other s;
  refused_16 = λ run size k. (gives_16 run size k (import_answer run size) (outcome run size), λ f. bad_answer run size k (bad_scanned run k f));
  refused_17 = λ run size v. (gives_17 run size v (import_answer run size) (outcome run size), makes_17 run size v);
  no_other_number = λ run size number v e. only_two run size number v (import_answer run size) (outcome run size) e;
  written_when = λ run size count. (gives_written run size count (import_answer run size) (outcome run size), makes_written run size count);
  writes_nothing = exit_refused;
  file_made = λ run before net r. point_13.network_made net (count_of (import_answer run (length before))) before (import_exit run before) (owes run before net r);
}
