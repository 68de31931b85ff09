-- Writing a network into a lent buffer: which networks have a file, what the buffer holds afterwards, how many bytes are written.
-- Assumes nothing.
use Rattle.std.specs.Prelude.{ℕ, ◌≡◌, Bool, true, false, ◌&&◌, [], ◌++◌, ltb, leb, get_or, length, drop}
use Rattle.std.proofs.Math.Option.{none, some}
use Rattle.lfa.specs.Lists.{every_below}
use Rattle.lfa.specs.Network.{Network}
use Rattle.lfa.specs.File.{Bytes, byte_at}
use Rattle.lfa.specs.FileOf.{file_of}
use Rattle.lfa.specs.Refusal.{file_refusal}

-- ---- the limits as a test
-- `FileOf.WithinLimits` says the limits of document 01. `has_file` is the same as a test (`Laws.Writing.has_limits`, `limits_have`), and
-- asks the reader: the limits of links and prefixes are those of rows 3 and 6 to 9, and are not said again.

-- the entry of prefix k has room for its attachments
abbrev pub entry_fits : Network → ℕ → Bool
entry_fits net k = leb (length (get_or net.prefixes k [])) 8

-- the head tells of so many routers, links and prefixes
unfoldable pub head_fits : Network → Bool
head_fits net = leb net.routers 64 && leb (length net.links) 128 && leb (length net.prefixes) 128

-- a file has room for so many routers, links, prefixes, and attachments of each prefix
unfoldable pub counts_fit : Network → Bool
counts_fit net = head_fits net && every_below (entry_fits net) (length net.prefixes)

-- each number is a byte
unfoldable pub are_bytes : Bytes → Bool
are_bytes b = every_below (λ i. ltb (byte_at b i) 256) (length b)

-- none of rows 1 to 9 turns the file away
unfoldable pub passes_rows : Bytes → Bool
passes_rows b = elim (file_refusal b) [ none ↦ true | some d ↦ false ]

-- the network is within the limits: a file has room for it, and what is written of it is bytes that the reader accepts
unfoldable pub has_file : Network → Bool
has_file net = counts_fit net && are_bytes (file_of net) && passes_rows (file_of net)

-- ---- what is written

-- "The call returns the bytes written, 0 and none .. with a buffer shorter than the file" (Point 13): so many bytes, where the file may be
-- written or not ..
unfoldable pub count_written : Bool → Bytes → ℕ
count_written fits file = elim fits [ true ↦ length file | false ↦ 0 ]

-- .. and what the buffer holds afterwards: the file, and after it what it held before
unfoldable pub buffer_written : Bool → (file before : Bytes) → Bytes
buffer_written fits file before = elim fits [ true ↦ file ++ drop (length file) before | false ↦ before ]

-- what a call that writes a file owes, where it may be written or not: the number of bytes that it returns, and its buffer at exit
pub record Written (fits : Bool) (file : Bytes) (count : ℕ) (before after : Bytes) : Type 0 where
  pub count_right : count ≡ count_written fits file
  pub buffer_right : after ≡ buffer_written fits file before

-- the network is within the limits, and a buffer of so many bytes is not shorter than its file
unfoldable pub file_fits : Network → ℕ → Bool
file_fits net size = has_file net && leb (length (file_of net)) size

-- what a call that writes a network owes
abbrev pub Wrote : Network → (count : ℕ) → (before after : Bytes) → Type 0
Wrote net count before after = Written (file_fits net (length before)) (file_of net) count before after
