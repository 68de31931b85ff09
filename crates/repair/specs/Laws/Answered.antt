-- What each call answers to a question that is posed and not turned away: by what the search part found over the filled area.
-- Assumes nothing.
use Rattle.std.specs.Prelude.{ℕ, ◌<◌, ◌≡◌, List, Result, Ok, Err, IfOk}
use Rattle.std.proofs.Math.Path.{refl, sym, ap}
use Rattle.std.proofs.Common.{◌∙◌}
use Rattle.std.proofs.lemmas.Result.{IfOk-at_ok}
use Rattle.lfa.specs.Lists.{member_of, any_of}
use Rattle.lfa.specs.File.{byte_at}
use Rattle.lfa.specs.Space.{Space}
use Rattle.lfa.specs.Repair.{Outcome}
use Rattle.lfa.specs.Question.{Question, Source, Call, fill, space, link_repair, prefix_repair, work_area, some_cells, inputs_of, input_number, has_input, network_asked}
use Rattle.lfa.specs.Answer.{Answer, done, set, repair_answer, computed, answer_to, exit_of, network_loaded}
use Rattle.lfa.proofs.Laws.Accepted.{accepted_loaded}
use Rattle.lfa.proofs.Laws.Asked.{posed_work}
use Rattle.lfa.proofs.Laws.Replies.{computes, has, space_has_link, link_has_link, prefix_has_link, prefix_has_prefix}
use Rattle.metric.specs.declared.columns.Links.{Links}
use Rattle.network_file.specs.declared.network.Network.{Network}
use Rattle.network_file.specs.Struct.{struct_of, link_part}
use Rattle.search.specs.Calls.{space_by, link_by, prefix_by}
use Rattle.question.specs.declared.Refusal.{Refusal}
use Rattle.question.specs.Turning.{Poses}
use Rattle.question.specs.Laws.Posed.{refused_away, area_lent, ready_posed, ready_taken, area_filled_lem}
use Rattle.repair.specs.Told.{told_by}
use Rattle.repair.specs.Laws.Searched.{space_searched, link_searched, prefix_searched}

module _ {q : Question} {posed : Result Links Refusal} {area after : List ℕ} (j : Poses q posed area after) (bytes : (i : ℕ) → byte_at q.file i < 256) where
  -- where no row before 14 applies, what the call computes is its answer
  module _ {links : Links} (ready : posed ≡ Ok links) where
    by_call : {c : Call} {answer : Answer} → q.call ≡ c → answer ≡ computed q c → answer ≡ answer_to q
    by_call c e = e ∙ sym (computes q (ready_posed j bytes ready) c)

    pub done_answered : q.call ≡ fill → done ≡ answer_to q
    unfolding computed
    done_answered c = by_call c refl

    pub space_answered : (s : Space) → q.call ≡ space s → set (space_by s links q.link q.end after) ≡ answer_to q
    unfolding computed has_input inputs_of input_number member_of any_of
    space_answered s c =
        let p = ready_posed j bytes ready in
        by_call c (ap set (space_searched p (ready_taken j bytes ready) area j.cells_are j.judges.limit_is (area_filled_lem j bytes ready) (space_has_link q.call s c) (has q p some_cells c refl) s))

    pub link_answered : {from : Source} → q.call ≡ link_repair from → repair_answer (link_by links q.ranks q.link q.end after) ≡ answer_to q
    unfolding computed has_input inputs_of input_number member_of any_of
    link_answered c =
        let p = ready_posed j bytes ready in
        by_call c (ap repair_answer (link_searched p (ready_taken j bytes ready) area j.cells_are j.judges.limit_is (area_filled_lem j bytes ready) (link_has_link q p c) (has q p some_cells c refl)))

  -- the area is left as the question asks
  pub area_left : after ≡ exit_of q work_area area
  unfolding network_asked
  area_left = go posed refl
    where
      go : (t : Result Links Refusal) → posed ≡ t → after ≡ exit_of q work_area area
      go (Err x) e = area_lent j e ∙ sym ((refused_away j e).area_left area)
      go (Ok links) e = area_filled_lem j bytes e ∙ sym (posed_work q (ready_posed j bytes e) area)

  -- the refusal, where a row before 14 applies, and else what is found is the answer
  told_answered : (found : Outcome) → ((links : Links) → posed ≡ Ok links → repair_answer found ≡ answer_to q) → told_by posed found ≡ answer_to q
  unfolding told_by
  told_answered found ready = go posed refl
    where
      go : (t : Result Links Refusal) → posed ≡ t → told_by posed found ≡ answer_to q
      go (Err x) e = ap (λ (t : Result Links Refusal). told_by t found) e ∙ sym (refused_away j e).answered
      go (Ok links) e = ap (λ (t : Result Links Refusal). told_by t found) e ∙ ready links e

  pub link_told : (links : Links) → IfOk posed (λ l. l ≡ links) → {from : Source} → q.call ≡ link_repair from → told_by posed (link_by links q.ranks q.link q.end after) ≡ answer_to q
  link_told links is c = told_answered _ (λ l e. link_answered (e ∙ ap Ok (IfOk-at_ok _ e is)) c)

-- For a prefix the whole network is asked.
module _ {q : Question} {posed : Result Links Refusal} (network : Network) {area after : List ℕ} (j : Poses q posed area after) (whole : network ≡ struct_of (network_loaded q.file)) (bytes : (i : ℕ) → byte_at q.file i < 256) where
  pub prefix_answered : posed ≡ Ok (link_part network) → {from : Source} → q.call ≡ prefix_repair from → repair_answer (prefix_by network q.ranks q.link q.end q.prefix after) ≡ answer_to q
  unfolding computed has_input inputs_of input_number member_of any_of
  prefix_answered ready c =
      let p = ready_posed j bytes ready in
      let h = prefix_has_prefix q.call c in
      let same = whole ∙ ap struct_of (accepted_loaded q.file p.file) in
      by_call j bytes ready c (ap repair_answer (prefix_searched p network (ready_taken j bytes ready) same area j.cells_are j.judges.limit_is (area_filled_lem j bytes ready) (prefix_has_link q p h) (has q p some_cells c refl) h))

  pub prefix_told : IfOk posed (λ l. l ≡ link_part network) → {from : Source} → q.call ≡ prefix_repair from → told_by posed (prefix_by network q.ranks q.link q.end q.prefix after) ≡ answer_to q
  prefix_told is c = told_answered j bytes _ (λ l e. prefix_answered (e ∙ ap Ok (IfOk-at_ok _ e is)) c)
