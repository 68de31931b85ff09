-- The inputs of each call are those of the definition; those of the calls that may be lent a table, by whether they are.
use Rattle.std.proofs.Common.{◌≡◌, Bool, true, false, refl}
use Rattle.lfa.specs.Lists.{member_of, any_of}
use Rattle.lfa.specs.Space as lfa
use Rattle.lfa.specs.Question.{cells_from, inputs_of, input_number, has_input}
use Rattle.rows.specs.Rows.{source_of, call_of, inputs_in}
use Rattle.rows.specs.declared.Call.TheVariants.{Link, Prefix, Route}
use Rattle.rows.proofs.inputs_of.Goals as goal

link_inputs : (given : Bool) (s : lfa.Space) → record { table = given; buffer = false; ranks = true; link = true; prefix = false } ≡ inputs_in (call_of Link given s)
unfolding source_of call_of inputs_in has_input inputs_of cells_from input_number member_of any_of
link_inputs true s = refl
link_inputs false s = refl

prefix_inputs : (given : Bool) (s : lfa.Space) → record { table = given; buffer = false; ranks = true; link = true; prefix = true } ≡ inputs_in (call_of Prefix given s)
unfolding source_of call_of inputs_in has_input inputs_of cells_from input_number member_of any_of
prefix_inputs true s = refl
prefix_inputs false s = refl

route_inputs : (given : Bool) (s : lfa.Space) → record { table = given; buffer = true; ranks = true; link = true; prefix = true } ≡ inputs_in (call_of Route given s)
unfolding source_of call_of inputs_in has_input inputs_of cells_from input_number member_of any_of
route_inputs true s = refl
route_inputs false s = refl

pub returns-in-Distances : goal.returns-in-Distances
unfolding call_of inputs_in has_input inputs_of input_number member_of any_of
returns-in-Distances c = rw c.in-Distances.is (λ s. refl)

pub returns-in-Space : goal.returns-in-Space
unfolding call_of inputs_in has_input inputs_of input_number member_of any_of
returns-in-Space c = rw c.in-Space.is (λ s. refl)

pub returns-in-Link : goal.returns-in-Link
returns-in-Link c = rw c.in-Link.is (λ s. link_inputs _ s)

pub returns-in-Prefix : goal.returns-in-Prefix
returns-in-Prefix c = rw c.in-Prefix.is (λ s. prefix_inputs _ s)

pub returns-in-Route : goal.returns-in-Route
returns-in-Route c = rw c.in-Route.is (λ s. route_inputs _ s)
