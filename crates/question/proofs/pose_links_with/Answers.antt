-- The question is asked of what the file part hands over.
use Rattle.std.proofs.Common.{refl, arith}
use Rattle.std.proofs.lemmas.Result.{IfOk-from_err}
use Rattle.lfa.specs.Answer.{network_loaded}
use Rattle.metric.specs.declared.columns.Links.{Links}
use Rattle.rows.specs.Rows.{question_about}
use Rattle.question.specs.Taken.{Taken}
use Rattle.question.specs.Turning.{table_cells, turned_answer, turned_row}
use Rattle.question.specs.Laws.Loaded.{taken}
use Rattle.question.proofs.QuestionLaws.{refusal_gone, fault_early}
use Rattle.question.proofs.pose_links_with.Goals as goal

pub returns-in_err-links : goal.returns-in_err-links
unfolding question_about table_cells
returns-in_err-links c = λ s choices ranks good.
    let out = c.from_residual in
    let q = question_about c.args.file.now (table_cells (network_loaded c.args.file.now) c.args.table.now) c.args.table.now c.args.asked s choices ranks in
    record {
      limit_is = refl;
      turned_is = fault_early Links q c.in_err-links.field-0.0 _ out.ensures.1 c.in_err-links.ensures.answer;
      links_is = IfOk-from_err _ _ out.ensures.0;
    }

pub returns-in_err-ask_with : goal.returns-in_err-ask_with
unfolding question_about table_cells
returns-in_err-ask_with c = λ s choices ranks good.
    let out = c.from_residual-in_err-ask_with in
    let b = c.args.file.now in
    let t : Taken b c.in_ok-links.links = taken b c.in_ok-links.ensures.answer c.in_ok-links.ensures.links (λ i. omega (arith, c.type_inv.file i)) refl in
    record {
      limit_is = refl;
      turned_is = refusal_gone Unit c.in_err-ask_with.field-0.0 _ out.ensures.1 (c.in_err-ask_with.ensures b s choices ranks t good);
      links_is = IfOk-from_err _ _ out.ensures.0;
    }

pub returns : goal.returns
unfolding question_about table_cells turned_answer turned_row
returns c = λ s choices ranks good.
    let b = c.args.file.now in
    let t : Taken b c.in_ok-links.links = taken b c.in_ok-links.ensures.answer c.in_ok-links.ensures.links (λ i. omega (arith, c.type_inv.file i)) refl in
    record {
      limit_is = refl;
      turned_is = c.in_ok-ask_with.ensures b s choices ranks t good;
      links_is = c.in_ok-links.ensures.links;
    }
