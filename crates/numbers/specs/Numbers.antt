-- What the calls answer, as numbers for programs in other languages: one struct for every answer.
-- Assumes nothing.
use Rattle.std.specs.Prelude.{ℕ}
use Rattle.lfa.specs.Answer.{Answer, refused, accepted, done, untouched, unreached, set, repair, played}
use Rattle.numbers.specs.declared.Numbers.{Numbers}

-- an answer of this kind, with the number and the value of a refusal, or a value alone
unfoldable pub plain : ℕ → ℕ → ℕ → Numbers
plain kind number value = record { kind = kind; number = number; value = value; first = 0; endpoint = 0; class = 0; cost = 0 }

-- the numbers of each answer; what an answer does not speak of is 0
unfoldable pub numbers_of : Answer → Numbers
numbers_of (refused number value) = plain 0 number value
numbers_of accepted = plain 1 0 0
numbers_of done = plain 2 0 0
numbers_of unreached = plain 3 0 0
numbers_of untouched = plain 4 0 0
numbers_of (set members) = plain 5 0 members
numbers_of (repair t) = record { kind = 6; number = 0; value = 0; first = t.first; endpoint = t.endpoint; class = t.class; cost = t.cost }
numbers_of (played count) = plain 7 0 count
