-- `load_links` answers as `judge_file` does, and hands over the links of an accepted file.
use Rattle.std.proofs.Common.{◌≡◌, ◌∙◌, ap}
use Rattle.std.specs.Prelude.{Result, Ok, Err, IfOk}
use Rattle.lfa.specs.File.{Bytes, network_of}
use Rattle.lfa.specs.Refusal.{file_refusal}
use Rattle.lfa.specs.Answer.{network_loaded}
use Rattle.metric.specs.declared.columns.Links.{Links}
use Rattle.network_file.specs.declared.Fault.{Fault}
use Rattle.network_file.specs.Struct.{links_struct_of}
use Rattle.network_file.specs.Load.{verdict_decided}
use Rattle.network_file.proofs.LoadLaws.{verdict_answers, accepted_network}
use Rattle.network_file.proofs.load_links.Goals as goal

held_links : (b : Bytes) (r : Result Links Fault) → verdict_decided r ≡ file_refusal b →
    IfOk r (λ l. l ≡ links_struct_of (network_of b)) → IfOk r (λ l. l ≡ links_struct_of (network_loaded b))
unfolding verdict_decided
held_links b (Ok l) e is = is ∙ ap links_struct_of (accepted_network b e)
held_links b (Err f) e is = tt

pub returns-clause-answer : goal.returns-clause-answer
returns-clause-answer c = verdict_answers _ _ c.judge_file.ensures.row

pub returns-clause-links : goal.returns-clause-links
returns-clause-links c = held_links _ _ c.judge_file.ensures.row c.judge_file.ensures.links
