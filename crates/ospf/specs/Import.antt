-- What the import of a run owes: what turns a run away (numbers 16 and 17), the answer, and what the lent buffer holds at exit.
-- Assumes nothing.
use Rattle.std.specs.Prelude.{ℕ, ◌≡◌, Bool, true, false, List, [], ◌∷◌, length}
use Rattle.std.proofs.Math.Option.{Option, none, some}
use Rattle.lfa.specs.Lists.{unless}
use Rattle.lfa.specs.Network.{Network}
use Rattle.lfa.specs.File.{Bytes}
use Rattle.lfa.specs.FileOf.{file_of}
use Rattle.lfa.specs.Refusal.{Decided, decided, first_row}
use Rattle.lfa.specs.Writing.{buffer_written, file_fits}
use Rattle.ospf.specs.Run.{Scanned, bad_at, whole, scan, lsas_of}
use Rattle.ospf.specs.Network.{network_from}

-- ---- what turns a run away

-- a bad LSA, and a network that is not written
pub data ImportRow : Type 0 where
  bad_lsa unwritten : ImportRow

-- "Number 16", "number 17"
unfoldable pub import_number : ImportRow → ℕ
import_number bad_lsa = 16
import_number unwritten = 17

-- number 17 is "tried next"
unfoldable pub import_rows : List ImportRow
import_rows = bad_lsa ∷ unwritten ∷ []

unfoldable pub first_bad : Scanned → Option ℕ
first_bad (bad_at k) = some k
first_bad (whole n) = none

-- how many LSAs the run is, or has before its first bad one
unfoldable pub good_lsas : Scanned → ℕ
good_lsas (bad_at k) = k
good_lsas (whole n) = n

-- the network of a run
unfoldable pub network_of : Bytes → Network
network_of run = network_from (lsas_of run (good_lsas (scan run)))

-- the value that a row returns where it applies: 16 "the first bad LSA counted from 0"; 17 0, "when the network is outside a limit of
-- document 01 or the file doesn't fit the buffer"
unfoldable pub import_returned : (run : Bytes) (size : ℕ) → ImportRow → Option ℕ
import_returned run size bad_lsa = first_bad (scan run)
import_returned run size unwritten = unless (file_fits (network_of run) size) 0

-- what turns the import of a run into a buffer of so many bytes away, if anything does
unfoldable pub import_refusal : (run : Bytes) (size : ℕ) → Option (Decided ImportRow)
import_refusal run size = first_row (import_returned run size) import_rows

-- ---- the answer

-- a number with its value, or how many bytes were written
pub data ImportAnswer : Type 0 where
  refused : (number value : ℕ) → ImportAnswer
  written : (count : ℕ) → ImportAnswer

unfoldable pub answer_by : Option (Decided ImportRow) → ℕ → ImportAnswer
answer_by (some (decided r v)) count = refused (import_number r) v
answer_by none count = written count

-- the answer of the import: "write a network file into a lent buffer and return its length"
unfoldable pub import_answer : (run : Bytes) (size : ℕ) → ImportAnswer
import_answer run size = answer_by (import_refusal run size) (length (file_of (network_of run)))

-- ---- the buffer at exit

unfoldable pub is_written : ImportAnswer → Bool
is_written (refused number value) = false
is_written (written count) = true

-- the file, and after it what was there before: "The buffer beyond it is untouched"; "both write nothing"
unfoldable pub import_exit : (run before : Bytes) → Bytes
import_exit run before = buffer_written (is_written (import_answer run (length before))) (file_of (network_of run)) before

-- what the call owes: its answer, and its buffer at exit
pub record Imported (run : Bytes) (answer : ImportAnswer) (before after : Bytes) : Type 0 where
  pub answer_is : answer ≡ import_answer run (length before)
  pub buffer_is : after ≡ import_exit run before
