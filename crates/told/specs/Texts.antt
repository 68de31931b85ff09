-- The texts that are printed, as bytes.
-- Assumes nothing.
use Rattle.std.specs.Prelude.{ℕ, List, ◌∷◌, ◌++◌, Bool, cond, codes}
use Rattle.std.specs.Fmt.{decimal}
use Rattle.told.specs.declared.asked.End.{End}

-- a link and an end of it
abbrev pub end_text : End → List ℕ
end_text end = decimal end.link ++ (32 ∷ decimal end.side)

-- whether all is as it was
abbrev pub kept_text : Bool → List ℕ
kept_text kept = cond kept (codes "kept") (codes "changed")
