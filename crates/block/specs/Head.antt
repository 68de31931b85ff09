-- What every block begins with, and what the head counts: parts of the tests of rows 3 and 5.
-- Assumes nothing.
use Rattle.std.specs.Prelude.{ℕ, Bool, ◌&&◌, eqb, leb}
use Rattle.lfa.specs.File.{Bytes, byte_at, word_at, routers_of, links_of, prefixes_of}

-- the block has this number, this kind and this many entries
unfoldable pub label_good : Bytes → ℕ → ℕ → ℕ → Bool
label_good block number kind entries = eqb (word_at block 2) number && eqb (byte_at block 0) kind && eqb (byte_at block 1) entries

-- the head's numbers of routers, links and prefixes are within the limits
unfoldable pub counts_good : Bytes → Bool
counts_good b = leb 1 (routers_of b) && leb (routers_of b) 64 && leb (links_of b) 128 && leb (prefixes_of b) 128
