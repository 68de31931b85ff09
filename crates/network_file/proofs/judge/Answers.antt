-- The verdict is that of `judge_file`.
use Rattle.std.proofs.lemmas.Result.{err_from_is_err_and}
use Rattle.network_file.specs.Load.{verdict_decided}
use Rattle.network_file.proofs.judge.Goals as goal

pub returns-in_err-judge_file : goal.returns-in_err-judge_file
unfolding verdict_decided
returns-in_err-judge_file c =
    let p = err_from_is_err_and c.from_residual.result c.from_residual.ensures.1 in
    rw (p.1, p.2) c.in_err-judge_file.ensures.row

pub returns : goal.returns
unfolding verdict_decided
returns c = c.in_ok-judge_file.ensures.row
