-- Which links and prefixes of a network are asked about.
-- Assumes nothing.
use Rattle.std.specs.Prelude.{ℕ, ◌*◌, ◌%◌, ◌≡◌, ◌⊎◌, Bool, true, cond, eqb, leb}
use Rattle.told.specs.declared.asked.Asked.{Asked}

-- whether a network of so many links and prefixes is small
abbrev pub few : ℕ → ℕ → Bool
few links prefixes = leb (links * prefixes) 2000

-- how many links are asked about
abbrev pub asked_links : Asked → ℕ
asked_links asked = cond asked.whole asked.links 4

-- link number k of those that are asked about: of a large network 0, 1, 64 or 127
abbrev pub asked_link : Asked → ℕ → ℕ
asked_link asked k = cond asked.whole k (cond (leb k 1) k (cond (eqb k 2) 64 127))

-- a prefix is asked about: of a large network every 16th is
abbrev pub IsAsked : Asked → ℕ → Type 0
IsAsked asked prefix = (asked.whole ≡ true) ⊎ (prefix % 16 ≡ 0)
