-- What a lent buffer holds after a part has been copied to its start.
-- Assumes nothing.
use Rattle.std.specs.Prelude.{ℕ, ◌+◌, ◌≤◌, ◌≡◌, List, ◌++◌, length, drop}
use Rattle.std.proofs.Common.{◌∙◌, ap, arith}
use Rattle.std.proofs.lemmas.List.Edits.{sets, sets-eq}

-- the bytes of the part stored one after another, from the buffer's first on
unfoldable pub copied_to : List ℕ → List ℕ → List ℕ
copied_to buffer part = sets buffer 0 part

-- So where the part fits, the buffer holds the part, and after it what it held before.
pub copied_front : (buffer part : List ℕ) → length part ≤ length buffer → copied_to buffer part ≡ part ++ drop (length part) buffer
unfolding copied_to
copied_front buffer part h =
    let e : 0 + length part ≡ length part = omega arith in
    sets-eq part buffer 0 (omega (arith, h)) ∙ ap (λ (k : ℕ). part ++ drop k buffer) e
