-- The question is asked of what the file part hands over.
use Rattle.std.proofs.Common.{◌≡◌, [], length, refl, arith}
use Rattle.std.proofs.lemmas.Result.{IfOk-from_err}
use Rattle.network_file.specs.declared.network.Network.{Network}
use Rattle.rows.specs.Rows.{question_about}
use Rattle.lfa.specs.Refusal.{in_file}
use Rattle.network_file.specs.Load.{fault_row}
use Rattle.question.specs.declared.Refusal.{Refusal}
use Rattle.question.specs.Taken.{Taken}
use Rattle.question.specs.Turning.{work_cells, row_of, turned_answer, turned_row, area_posed}
use Rattle.question.specs.Laws.Loaded.{taken}
use Rattle.question.proofs.QuestionLaws.{refusal_gone, fault_early, area_gone, area_left, network_gone, network_refused, part_is}
use Rattle.question.proofs.pose.Goals as goal

pub returns-in_err-network-clause-posed : goal.returns-in_err-network-clause-posed
unfolding question_about work_cells
returns-in_err-network-clause-posed c = λ s choices ranks good.
    let out = c.from_residual in
    let q = question_about c.args.file.now (work_cells (length c.args.work.now)) [] c.args.asked s choices ranks in
    record {
      judges = record {
        limit_is = refl;
        turned_is = fault_early Network q c.in_err-network.field-0.0 _ (network_gone (λ (x : Refusal). row_of x ≡ in_file (fault_row c.in_err-network.field-0.0)) out.result out.ensures.1) c.in_err-network.ensures.answer;
        links_is = IfOk-from_err _ _ (network_refused out.result out.ensures.0);
      };
      cells_are = refl;
      area_is = area_gone _ (network_refused out.result out.ensures.0) _ _;
    }

pub returns-in_err-ask-clause-posed : goal.returns-in_err-ask-clause-posed
unfolding question_about work_cells
returns-in_err-ask-clause-posed c = λ s choices ranks good.
    let out = c.from_residual-in_err-ask in
    let b = c.args.file.now in
    let t : Taken b c.in_ok-network.network.links = taken b c.in_ok-network.ensures.answer (part_is _ c.in_ok-network.ensures.network) (λ i. omega (arith, c.type_inv.file i)) refl in
    record {
      judges = record {
        limit_is = refl;
        turned_is = refusal_gone Unit c.in_err-ask.field-0.0 _ (network_gone (λ (x : Refusal). x ≡ c.in_err-ask.field-0.0) out.result out.ensures.1) (c.in_err-ask.ensures.turned b s choices ranks t good);
        links_is = IfOk-from_err _ _ (network_refused out.result out.ensures.0);
      };
      cells_are = refl;
      area_is = area_left Unit c.in_err-ask.field-0.0 _ (network_refused out.result out.ensures.0) _ _ _ (c.in_err-ask.ensures.area b s choices ranks t good);
    }

pub returns-clause-posed : goal.returns-clause-posed
unfolding question_about work_cells turned_answer turned_row area_posed
returns-clause-posed c = λ s choices ranks good.
    let b = c.args.file.now in
    let t : Taken b c.in_ok-network.network.links = taken b c.in_ok-network.ensures.answer (part_is _ c.in_ok-network.ensures.network) (λ i. omega (arith, c.type_inv.file i)) refl in
    record {
      judges = record { limit_is = refl; turned_is = c.in_ok-ask.ensures.turned b s choices ranks t good; links_is = part_is _ c.in_ok-network.ensures.network };
      cells_are = refl;
      area_is = c.in_ok-ask.ensures.area b s choices ranks t good;
    }
