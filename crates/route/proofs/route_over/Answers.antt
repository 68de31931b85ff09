-- Without a pair the answer of the prefix repair is passed on, and with one the route that the choice bytes name is played.
use Rattle.std.proofs.Common.{ℕ, ◌++◌, drop, refl, sym, ap, ◌∙◌, arith}
use Rattle.std.specs.Prelude.{Ok, Err}
use Rattle.lfa.specs.Answer.{played}
use Rattle.lfa.specs.Answer as lfa
use Rattle.lfa.proofs.Laws.Asked.{answer_chosen}
use Rattle.answers.specs.Answer.{repair_of}
use Rattle.search.specs.declared.Repair.{Repair}
use Rattle.question.proofs.QuestionLaws.{err_is}
use Rattle.route.specs.Answer.{played_of, passed_on}
use Rattle.route.specs.Put.{route_question}
use Rattle.route.proofs.RouteLaws.{not_pair, passed}
use Rattle.route.proofs.HandedLaws.{p, link_cell, prefix_column_lem, route_searched, TheRoute, route_answered, buffer_written_lem, played_route, play_ready}
use Rattle.route.proofs.route_over.Goals as goal

pub returns-in_err-repair : goal.returns-in_err-repair
unfolding route_question played_of passed_on
returns-in_err-repair c = λ rest i.
    let x = c.in_err-repair.field-0.0 in
    let answered = c.in_err-repair.ensures ∙ ap lfa.repair_answer (route_searched _ i.poses i.whole i.bytes refl c.prefix_pair.ensures) in
    let on = passed _ (p _ i.poses i.whole i.bytes refl) refl (Err x) answered (not_pair (Err x) (λ q e. cc)) in
    rw (err_is x _ c.from_residual.ensures.1) (record { answer_is = on.0; buffer_is = on.1 _ })

pub returns-in_default : goal.returns-in_default
unfolding route_question
returns-in_default c = λ rest i.
    let answered = c.in_ok-repair.ensures ∙ ap lfa.repair_answer (route_searched _ i.poses i.whole i.bytes refl c.prefix_pair.ensures) in
    let on = passed _ (p _ i.poses i.whole i.bytes refl) refl (Ok c.in_ok-repair.repair) answered (not_pair _ (λ q e. c.in_default.not-Pair q cc)) in
    record { answer_is = c.passed_on.ensures ∙ on.0; buffer_is = on.1 _ }

pub overflow_mul-slots : goal.overflow_mul-slots
unfolding route_question
overflow_mul-slots c =
    let i = c.requires.1 in
    record { fits = omega (arith, prefix_column_lem _ i.poses i.whole i.bytes refl) }

pub bounds-network-prefix : goal.bounds-network-prefix
unfolding route_question
bounds-network-prefix c =
    let i = c.requires.1 in
    prefix_column_lem _ i.poses i.whole i.bytes refl

pub repairing-near-requires : goal.repairing-near-requires
unfolding route_question
repairing-near-requires c =
    let i = c.requires.1 in
    link_cell _ i.poses i.whole i.bytes refl

pub play-written-requires : goal.play-written-requires
unfolding route_question repair_of
play-written-requires c =
    let i = c.requires.1 in
    let answered = c.in_ok-repair.ensures ∙ ap lfa.repair_answer (route_searched _ i.poses i.whole i.bytes refl c.prefix_pair.ensures) in
    let paired = answer_chosen _ _ (sym answered ∙ ap (λ (r : Repair). repair_of (Ok r)) c.in-Pair.is) in
    play_ready _ i.poses i.whole i.bytes refl paired c.repairing-near.ensures c.from.ensures

pub returns : goal.returns
unfolding played_of route_question repair_of
returns c = λ rest i.
    let answered = c.in_ok-repair.ensures ∙ ap lfa.repair_answer (route_searched _ i.poses i.whole i.bytes refl c.prefix_pair.ensures) in
    let paired = answer_chosen _ _ (sym answered ∙ ap (λ (r : Repair). repair_of (Ok r)) c.in-Pair.is) in
    let way = TheRoute _ i.poses i.whole i.bytes refl paired in
    let went = c.play-written.ensures _ (played_route _ i.poses i.whole i.bytes refl paired c.repairing-near.ensures c.from.ensures) in
    let lent = c.args.buffer.now in
    record {
      answer_is = ap played went.0 ∙ route_answered _ i.poses i.whole i.bytes refl paired;
      buffer_is = went.1 ∙ ap (λ (k : ℕ). way ++ drop k lent) went.0 ∙ buffer_written_lem _ i.poses i.whole i.bytes refl paired lent;
    }
