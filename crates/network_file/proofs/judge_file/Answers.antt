-- `judge_file` answers with the first of rows 1 to 9 that applies, and with the links of the file where none does.
use Rattle.std.proofs.Common.{◌∙◌, sym, ap}
use Rattle.std.proofs.Math.Option.{some}
use Rattle.std.proofs.lemmas.Result.{err_from_is_err_and}
use Rattle.block.specs.Judged.{blocks_decided}
use Rattle.network_file.specs.Load.{verdict_decided}
use Rattle.network_file.proofs.LoadLaws.{blocks_refuse}
use Rattle.network_file.proofs.judge_file.Goals as goal

pub returns-in_err-judge_blocks-clause-row : goal.returns-in_err-judge_blocks-clause-row
unfolding verdict_decided blocks_decided
returns-in_err-judge_blocks-clause-row c =
    let p = err_from_is_err_and c.from_residual.result c.from_residual.ensures.1 in
    rw p.1 (sym (blocks_refuse _ _ (sym c.in_err-judge_blocks.ensures ∙ ap some (sym p.2))))

pub load_entries-requires : goal.load_entries-requires
unfolding blocks_decided
load_entries-requires c = sym c.in_ok-judge_blocks.ensures
