-- The question is asked of what the file part hands over.
use Rattle.std.proofs.Common.{◌≡◌, refl, arith}
use Rattle.std.proofs.lemmas.Result.{IfOk-from_err}
use Rattle.lfa.specs.Answer.{network_loaded}
use Rattle.network_file.specs.declared.network.Network.{Network}
use Rattle.rows.specs.Rows.{question_about}
use Rattle.lfa.specs.Refusal.{in_file}
use Rattle.network_file.specs.Load.{fault_row}
use Rattle.question.specs.declared.Refusal.{Refusal}
use Rattle.question.specs.Taken.{Taken}
use Rattle.question.specs.Turning.{table_cells, row_of, turned_answer, turned_row}
use Rattle.question.specs.Laws.Loaded.{taken}
use Rattle.question.proofs.QuestionLaws.{refusal_gone, fault_early, network_gone, network_refused, part_is}
use Rattle.question.proofs.pose_with.Goals as goal

pub returns-in_err-network-clause-judged : goal.returns-in_err-network-clause-judged
unfolding question_about table_cells
returns-in_err-network-clause-judged c = λ s choices ranks good.
    let out = c.from_residual in
    let q = question_about c.args.file.now (table_cells (network_loaded c.args.file.now) c.args.table.now) c.args.table.now c.args.asked s choices ranks in
    record {
      limit_is = refl;
      turned_is = fault_early Network q c.in_err-network.field-0.0 _ (network_gone (λ (x : Refusal). row_of x ≡ in_file (fault_row c.in_err-network.field-0.0)) out.result out.ensures.1) c.in_err-network.ensures.answer;
      links_is = IfOk-from_err _ _ (network_refused out.result out.ensures.0);
    }

pub returns-in_err-ask_with-clause-judged : goal.returns-in_err-ask_with-clause-judged
unfolding question_about table_cells
returns-in_err-ask_with-clause-judged c = λ s choices ranks good.
    let out = c.from_residual-in_err-ask_with in
    let b = c.args.file.now in
    let t : Taken b c.in_ok-network.network.links = taken b c.in_ok-network.ensures.answer (part_is _ c.in_ok-network.ensures.network) (λ i. omega (arith, c.type_inv.file i)) refl in
    record {
      limit_is = refl;
      turned_is = refusal_gone Unit c.in_err-ask_with.field-0.0 _ (network_gone (λ (x : Refusal). x ≡ c.in_err-ask_with.field-0.0) out.result out.ensures.1) (c.in_err-ask_with.ensures b s choices ranks t good);
      links_is = IfOk-from_err _ _ (network_refused out.result out.ensures.0);
    }

pub returns-clause-judged : goal.returns-clause-judged
unfolding question_about table_cells turned_answer turned_row
returns-clause-judged c = λ s choices ranks good.
    let b = c.args.file.now in
    let t : Taken b c.in_ok-network.network.links = taken b c.in_ok-network.ensures.answer (part_is _ c.in_ok-network.ensures.network) (λ i. omega (arith, c.type_inv.file i)) refl in
    record {
      limit_is = refl;
      turned_is = c.in_ok-ask_with.ensures b s choices ranks t good;
      links_is = part_is _ c.in_ok-network.ensures.network;
    }
