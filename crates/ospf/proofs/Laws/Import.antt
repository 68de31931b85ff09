-- What the import answers: one of three, by what the run is and by whether the file of its network may be written.
-- Assumes nothing.
use Rattle.std.specs.Prelude.{ℕ, ◌≡◌, Bool, length}
use Rattle.std.proofs.Math.Path.{refl, ap}
use Rattle.std.proofs.Common.{◌∙◌}
use Rattle.std.proofs.Math.Bool.{true, false}
use Rattle.std.proofs.Math.Option.{Option, none, some}
use Rattle.lfa.specs.Lists.{unless}
use Rattle.lfa.specs.Network.{Network}
use Rattle.lfa.specs.File.{Bytes}
use Rattle.lfa.specs.FileOf.{file_of}
use Rattle.lfa.specs.Refusal.{Decided, decided, first_row}
use Rattle.lfa.specs.Writing.{file_fits}
use Rattle.ospf.specs.Run.{FirstBad, WholeRun, Scanned, bad_at, whole, scan, lsas_of}
use Rattle.ospf.specs.Network.{network_from}
use Rattle.ospf.specs.Import.{ImportRow, bad_lsa, unwritten, import_number, import_rows, first_bad, good_lsas, network_of, import_returned, import_refusal, ImportAnswer, refused, written, answer_by, import_answer}
use Rattle.ospf.specs.Promises.{RunMeans}
use Rattle.ospf.proofs.Laws.Run.{Found, scanned, whole_scanned}
use Rattle.ospf.proofs.Laws.SoundRun.{run_sound}
use Rattle.ospf.proofs.Laws.Means.{network_means, means_unique}

-- ---- the network of a whole run is the one that it means

module _ (run : Bytes) where
  whole_network : (n : ℕ) → scan run ≡ whole n → network_of run ≡ network_from (lsas_of run n)
  unfolding network_of good_lsas
  whole_network n e = rw (network_of, e) refl

  pub whole_means : (n : ℕ) → WholeRun run n → RunMeans run (network_of run)
  whole_means n w = record {
    lsas = n;
    whole = w;
    means = rw (whole_network n (whole_scanned run n w)) (network_means (lsas_of run n) (run_sound run n w));
  }

  -- and there is no other
  pub meant_network : (net : Network) → RunMeans run net → network_of run ≡ net
  meant_network net r =
      whole_network r.lsas (whole_scanned run r.lsas r.whole)
      ∙ means_unique (lsas_of run r.lsas) _ net (network_means (lsas_of run r.lsas) (run_sound run r.lsas r.whole)) r.means

-- ---- the three answers

-- a run into a buffer of so many bytes: a bad LSA, a network that is not written, or one whose file is
pub data Outcome (run : Bytes) (size : ℕ) : ImportAnswer → Type 0 where
  is_bad : {k : ℕ} → FirstBad run k → Outcome run size (refused 16 k)
  not_written : RunMeans run (network_of run) → file_fits (network_of run) size ≡ false → Outcome run size (refused 17 0)
  is_written_lem : RunMeans run (network_of run) → file_fits (network_of run) size ≡ true → Outcome run size (written (length (file_of (network_of run))))

-- the answer for a network whose file may be written or not
abbrev pub answer_for : Bool → Network → ImportAnswer
answer_for true net = written (length (file_of net))
answer_for false net = refused 17 0

module _ (run : Bytes) (size : ℕ) where
  -- what decides: row 16 where there is a first bad LSA, else row 17 unless the file may be written
  bad_decides : (k : ℕ) → import_returned run size bad_lsa ≡ some k → import_refusal run size ≡ some (decided bad_lsa k)
  unfolding import_refusal import_rows first_row
  bad_decides k e = rw (e, import_refusal, first_row)

  next_decides : (o : Option ℕ) → import_returned run size bad_lsa ≡ none → import_returned run size unwritten ≡ o →
      import_refusal run size ≡ elim o as (λ _. Option (Decided ImportRow)) [ some v ↦ some (decided unwritten v) | none ↦ none ]
  unfolding import_refusal import_rows first_row
  next_decides none e f = rw (e, import_refusal, f, first_row)
  next_decides (some v) e f = rw (e, import_refusal, f, first_row)

  pub bad_answer : (k : ℕ) → scan run ≡ bad_at k → import_answer run size ≡ refused 16 k
  unfolding import_answer answer_by import_returned first_bad import_number
  bad_answer k e = ap (λ d. answer_by d (length (file_of (network_of run)))) (bad_decides k (ap first_bad e))

  pub whole_answer : (n : ℕ) (t : Bool) → scan run ≡ whole n → file_fits (network_of run) size ≡ t →
      import_answer run size ≡ answer_for t (network_of run)
  unfolding import_answer answer_by import_returned first_bad import_number unless
  whole_answer n true e f = ap (λ d. answer_by d (length (file_of (network_of run)))) (next_decides none (ap first_bad e) (ap (λ t. unless t 0) f))
  whole_answer n false e f = ap (λ d. answer_by d (length (file_of (network_of run)))) (next_decides (some 0) (ap first_bad e) (ap (λ t. unless t 0) f))

  -- Every answer is one of the three, and is what it says.
  pub outcome : Outcome run size (import_answer run size)
  outcome = go (scan run) refl (scanned run) (file_fits (network_of run) size) refl
    where
      go : (s : Scanned) → scan run ≡ s → Found run s → (t : Bool) → file_fits (network_of run) size ≡ t → Outcome run size (import_answer run size)
      go (bad_at k) e f t u = rw (bad_answer k e) (is_bad f)
      go (whole n) e w true u = rw (whole_answer n true e u) (is_written_lem (whole_means run n w) u)
      go (whole n) e w false u = rw (whole_answer n false e u) (not_written (whole_means run n w) u)
