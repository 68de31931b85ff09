-- Lists of bytes: what is made of bytes is bytes, and a 16-bit field reads back.
-- Assumes nothing.
use Rattle.std.specs.Prelude.{ℕ, zero, suc, ◌+◌, ◌-◌, ◌*◌, ◌/◌, ◌%◌, ◌≤◌, ◌<◌, ◌≡◌, refl, true, List, [], ◌∷◌, ◌++◌, get_or, length, replicate}
use Rattle.std.proofs.Common.{arith}
use Rattle.lfa.specs.Lists.{flat}
use Rattle.lfa.specs.File.{Bytes, all_zero}
use Rattle.lfa.specs.FileOf.{word_bytes, pad}
use Rattle.lfa.proofs.Laws.File.Passes.{AreBytes}

-- ---- fields

-- a written 16-bit field reads back
pub word_back : (w : ℕ) → w % 256 + 256 * (w / 256) ≡ w
word_back w = omega arith

-- ---- bytes

pub no_bytes : AreBytes []
no_bytes = record { small = λ i. omega arith }

pub cons_bytes : (x : ℕ) (b : Bytes) → x < 256 → AreBytes b → AreBytes (x ∷ b)
cons_bytes x b h m = record { small = go }
  where
    go : (i : ℕ) → get_or (x ∷ b) i 0 < 256
    go zero = h
    go (suc i) = m.small i

pub tail_bytes : (x : ℕ) (b : Bytes) → AreBytes (x ∷ b) → AreBytes b
tail_bytes x b m = record { small = λ i. m.small (suc i) }

pub append_bytes : (a b : Bytes) → AreBytes a → AreBytes b → AreBytes (a ++ b)
append_bytes [] b m n = n
append_bytes (x ∷ a) b m n = cons_bytes x (a ++ b) (m.small 0) (append_bytes a b (tail_bytes x a m) n)

pub zero_bytes : (n : ℕ) → AreBytes (replicate n 0)
zero_bytes zero = no_bytes
zero_bytes (suc n) = cons_bytes 0 (replicate n 0) (omega arith) (zero_bytes n)

pub word_bytes_lem : (w : ℕ) → w ≤ 65535 → AreBytes (word_bytes w)
unfolding word_bytes
word_bytes_lem w h = cons_bytes (w % 256) (w / 256 ∷ []) (omega arith) (cons_bytes (w / 256) [] (omega arith) no_bytes)

pub pad_bytes : (n : ℕ) (b : Bytes) → AreBytes b → AreBytes (pad n b)
unfolding pad
pad_bytes n b m = append_bytes b (replicate (n - length b) 0) m (zero_bytes (n - length b))

pub flat_bytes : (ls : List Bytes) → ((i : ℕ) → i < length ls → AreBytes (get_or ls i [])) → AreBytes (flat ls)
unfolding flat
flat_bytes [] each = no_bytes
flat_bytes (l ∷ ls) each = append_bytes l (flat ls) (each 0 (omega arith)) (flat_bytes ls (λ i h. each (suc i) (omega arith)))

pub zeros_zero : (n : ℕ) → all_zero (replicate n 0) ≡ true
unfolding all_zero
zeros_zero zero = refl
zeros_zero (suc n) = zeros_zero n
