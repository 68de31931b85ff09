-- Answers as one number.
-- Assumes nothing.
use Rattle.std.specs.Prelude.{ℕ, ◌*◌, ◌%◌, ◌^◌, ◌<◌, ◌≡◌, bit_or, Result, Ok, Err}
use Rattle.lfa.specs.Answer.{Answer, refused}
use Rattle.order.specs.declared.Pair.{Pair}
use Rattle.question.specs.declared.Refusal.{Refusal}
use Rattle.question.specs.Turning.{refusal_answer}
use Rattle.refusal.specs.declared.Row.{Row}
use Rattle.search.specs.declared.Repair.{Repair}
use Rattle.search.specs.declared.Repair.TheVariants.{Unreachable, Untouched, Pair as Repaired}

-- a number moved up by some of 64 bits
abbrev pub moved_up : ℕ → ℕ → ℕ
moved_up bits n = (n * 2 ^ bits) % 2 ^ 64

-- the fields of a pair, from the bits 8, 16, 24 and 32 on, and 3 in the lowest two
abbrev pub pair_code : Pair → ℕ
pair_code p = bit_or (bit_or (bit_or (bit_or (moved_up 8 p.first) (moved_up 16 p.endpoint)) (moved_up 24 p.class)) (moved_up 32 p.cost)) 3

-- `told` is the code of a refusal, where `gives row r` says that r may be the code of a row
abbrev pub GivesCodes : (Row → ℕ → Type 0) → (Answer → ℕ) → Type 0
GivesCodes gives told = (row : Row) (r : ℕ) → row.number < 2 ^ 32 → row.value < 2 ^ 64 → gives row r → r ≡ told (refused row.number row.value)

-- the code of an answer, where `told` is the code of a refusal
abbrev pub code_of : (Answer → ℕ) → Result Repair Refusal → ℕ
code_of told (Err refusal) = told (refusal_answer refusal)
code_of told (Ok Unreachable) = 1
code_of told (Ok Untouched) = 2
code_of told (Ok (Repaired p)) = pair_code p
