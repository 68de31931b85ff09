-- The verdict's numbers, and the columns of the network one by one; beside a refusal those of the empty network.
use Rattle.std.proofs.Common.{ap, ap₂, ◌∙◌}
use Rattle.numbers.specs.Numbers.{numbers_of}
use Rattle.network_file.specs.Struct.{struct_of}
use Rattle.network_file.specs.Load.{answer_of}
use Rattle.planner.specs.Numbers.{loaded_as}
use Rattle.planner.proofs.LoadLaws.{refused_empty}
use Rattle.planner.proofs.planner_load.Goals as goal

pub returns-in-Ok : goal.returns-in-Ok
unfolding answer_of
returns-in-Ok c = c.loaded_network.ensures ∙ ap₂ loaded_as (c.verdict_numbers.ensures ∙ ap numbers_of c.in-Ok.ensures.answer) c.in-Ok.ensures.network

pub returns-in-Err : goal.returns-in-Err
unfolding answer_of
returns-in-Err c = c.loaded_network-in-Err.ensures ∙ ap₂ loaded_as (c.verdict_numbers-in-Err.ensures ∙ ap numbers_of c.in-Err.ensures.answer) (c.empty.ensures ∙ ap struct_of (refused_empty _ c.in-Err.fault c.in-Err.ensures.answer))
