-- The choice supply after a byte is drawn. Assumes nothing.
use Rattle.std.specs.Prelude.{ℕ, ◌+◌, true, false, List, ltb, length}
use Rattle.supply.specs.declared.Choices.{Choices}

-- the place of the byte after: where the bytes have run out it stays
unfoldable pub place_after : List ℕ → ℕ → ℕ
place_after bytes place = elim (ltb place (length bytes)) [ true ↦ place + 1 | false ↦ place ]

-- the same bytes, and the place after
abbrev pub advanced : Choices → Choices
advanced c = record { bytes = c.bytes; place = place_after c.bytes.now c.place }
