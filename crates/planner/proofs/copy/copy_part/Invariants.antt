-- What is left of the part, stored from the index on, makes the same buffer at each turn.
use Rattle.std.proofs.Common.{◌≡◌, drop}
use Rattle.std.proofs.lemmas.List.Edits.{sets}
use Rattle.planner.specs.Copied.{copied_to}
use Rattle.planner.proofs.copy.copy_part.Given as goal

abbrev pub invariant-loop-i : goal.invariant-loop-i
invariant-loop-i l = sets l.entry l.i (drop l.i l.part) ≡ copied_to l.fn.entry l.part
