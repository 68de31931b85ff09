-- The question is asked of what the file part hands over.
use Rattle.std.proofs.Common.{[], length, refl, arith}
use Rattle.std.proofs.lemmas.Result.{IfOk-from_err}
use Rattle.metric.specs.declared.columns.Links.{Links}
use Rattle.rows.specs.Rows.{question_about}
use Rattle.question.specs.Taken.{Taken}
use Rattle.question.specs.Turning.{work_cells, turned_answer, turned_row, area_posed}
use Rattle.question.specs.Laws.Loaded.{taken}
use Rattle.question.proofs.QuestionLaws.{refusal_gone, fault_early, area_gone, area_left}
use Rattle.question.proofs.pose_links.Goals as goal

pub returns-in_err-links : goal.returns-in_err-links
unfolding question_about work_cells
returns-in_err-links c = λ s choices ranks good.
    let out = c.from_residual in
    let q = question_about c.args.file.now (work_cells (length c.args.work.now)) [] c.args.asked s choices ranks in
    record {
      judges = record {
        limit_is = refl;
        turned_is = fault_early Links q c.in_err-links.field-0.0 _ out.ensures.1 c.in_err-links.ensures.answer;
        links_is = IfOk-from_err _ _ out.ensures.0;
      };
      cells_are = refl;
      area_is = area_gone _ out.ensures.0 _ _;
    }

pub returns-in_err-ask : goal.returns-in_err-ask
unfolding question_about work_cells
returns-in_err-ask c = λ s choices ranks good.
    let out = c.from_residual-in_err-ask in
    let b = c.args.file.now in
    let t : Taken b c.in_ok-links.links = taken b c.in_ok-links.ensures.answer c.in_ok-links.ensures.links (λ i. omega (arith, c.type_inv.file i)) refl in
    record {
      judges = record {
        limit_is = refl;
        turned_is = refusal_gone Unit c.in_err-ask.field-0.0 _ out.ensures.1 (c.in_err-ask.ensures.turned b s choices ranks t good);
        links_is = IfOk-from_err _ _ out.ensures.0;
      };
      cells_are = refl;
      area_is = area_left Unit c.in_err-ask.field-0.0 _ out.ensures.0 _ _ _ (c.in_err-ask.ensures.area b s choices ranks t good);
    }

pub returns : goal.returns
unfolding question_about work_cells turned_answer turned_row area_posed
returns c = λ s choices ranks good.
    let b = c.args.file.now in
    let t : Taken b c.in_ok-links.links = taken b c.in_ok-links.ensures.answer c.in_ok-links.ensures.links (λ i. omega (arith, c.type_inv.file i)) refl in
    record {
      judges = record { limit_is = refl; turned_is = c.in_ok-ask.ensures.turned b s choices ranks t good; links_is = c.in_ok-links.ensures.links };
      cells_are = refl;
      area_is = c.in_ok-ask.ensures.area b s choices ranks t good;
    }
