-- The rows before 14 decide in their order, then the route is played over the filled area.
use Rattle.std.proofs.Common.{[], length, refl, sym, arith}
use Rattle.std.specs.Prelude.{Err}
use Rattle.lfa.specs.File.{byte_at}
use Rattle.lfa.specs.Question.{own_fill, ask_route}
use Rattle.rows.specs.Rows.{source_of, call_of, question_about}
use Rattle.question.specs.Turning.{work_cells, Poses}
use Rattle.question.specs.Laws.Posed.{refused_away, refused_answered}
use Rattle.question.proofs.QuestionLaws.{err_is}
use Rattle.repair.specs.Laws.Told.{poses_numbers}
use Rattle.repair.specs.Laws.Answered.{area_left}
use Rattle.route.specs.Answer.{played_of}
use Rattle.route.specs.Put.{route_numbers, Rest, route_question, IsPut}
use Rattle.route.proofs.route.Goals as goal

pub returns-in_err-network : goal.returns-in_err-network
unfolding played_of ask_route route_question question_about call_of source_of work_cells route_numbers
returns-in_err-network c =
    let a = c.args in
    let x = c.in_err-network.field-0.0 in
    let j : Poses (ask_route a.file.now (length a.work.now) (length a.buffer.now) a.ranks.now a.link a.end a.prefix a.choices.now) (Err x) a.work.now c.pose.new.work =
    poses_numbers a.file.now (work_cells (length a.work.now)) [] a.choices.now a.ranks.now c.route_asked-asked.ensures (sym c.arranged.ensures) c.in_err-network.ensures.posed in
    rw (err_is x _ c.from_residual.ensures.1) (record { answered = refused_answered j refl; buffer_is = sym ((refused_away j refl).buffer_left _) })

pub route_over-requires : goal.route_over-requires
unfolding route_question question_about call_of source_of work_cells route_numbers byte_at
route_over-requires c =
    let a = c.args in (
      record { from = own_fill; file = a.file.now; cells = length a.work.now; table = []; before = a.work.now },
      record {
        bytes = λ i. omega (arith, c.type_inv.file i);
        poses = poses_numbers a.file.now (work_cells (length a.work.now)) [] a.choices.now a.ranks.now c.route_asked-asked.ensures (sym c.arranged.ensures) c.in_ok-network.ensures.posed;
        whole = c.in_ok-network.ensures.network;
      },
    )

pub returns : goal.returns
unfolding ask_route route_question question_about call_of source_of work_cells route_numbers byte_at
returns c =
    let a = c.args in
    let rest : Rest = record { from = own_fill; file = a.file.now; cells = length a.work.now; table = []; before = a.work.now } in
    let i : IsPut rest c.in_ok-network.network c.pose.new.work (length a.buffer.now) a.ranks.now a.link a.end a.prefix a.choices.now =
    record {
      bytes = λ i. omega (arith, c.type_inv.file i);
      poses = poses_numbers a.file.now (work_cells (length a.work.now)) [] a.choices.now a.ranks.now c.route_asked-asked.ensures (sym c.arranged.ensures) c.in_ok-network.ensures.posed;
      whole = c.in_ok-network.ensures.network;
    }
    in
    let over = c.route_over.ensures rest i in
    record { answered = record { answer_is = over.answer_is; area_is = area_left i.poses i.bytes }; buffer_is = over.buffer_is }
