-- What the calls have in common.
-- Assumes nothing.
use Rattle.std.specs.Prelude.{◌≡◌, refl, Bool, true, false}
use Rattle.lfa.specs.Lists.{member_of, any_of}
use Rattle.lfa.specs.Space as space
use Rattle.lfa.specs.Question.{some_cells, a_table, inputs_of, cells_from, input_number, has_input}
use Rattle.rows.specs.declared.Call.{Call}
use Rattle.rows.specs.declared.Call.TheVariants.{Distances, Space, Link, Prefix, Route}
use Rattle.rows.specs.Rows.{source_of, call_of}

-- every call has cells for distances
pub has_cells : (c : Call) (given : Bool) (s : space.Space) → has_input (call_of c given s) some_cells ≡ true
unfolding call_of has_input inputs_of input_number member_of any_of
has_cells Distances given s = refl
has_cells Space given s = refl
has_cells Link given s = refl
has_cells Prefix given s = refl
has_cells Route given s = refl

-- and a table only where it is given
pub has_no_table : (c : Call) (s : space.Space) → has_input (call_of c false s) a_table ≡ false
unfolding source_of call_of has_input inputs_of cells_from input_number member_of any_of
has_no_table Distances s = refl
has_no_table Space s = refl
has_no_table Link s = refl
has_no_table Prefix s = refl
has_no_table Route s = refl
