-- Point 2 holds: who gets a repair does not depend on the ranks, and ascending ranks give the order of document 01.
-- Assumes nothing.
use Rattle.std.specs.Prelude.{ℕ, ◌≡◌, true}
use Rattle.std.proofs.Math.Path.{refl, ap, ap₂}
use Rattle.std.proofs.Common.{sym, ◌∙◌, subst}
use Rattle.std.proofs.Math.Option.{Option, none, some}
use mathlib.Core.List.{List}
use Rattle.lfa.specs.Lists.{member_of, any_of}
use Rattle.lfa.specs.Network.{Target}
use Rattle.lfa.specs.Ranks.{rank_of, Arrangement, ascending, is_arrangement}
use Rattle.lfa.specs.Repair.{Pair, Told, keys_at}
use Rattle.lfa.specs.Question.{Question, Source, Call, load, fill, space, link_repair, prefix_repair, route, ask_link, ask_prefix, ask_route, with_ranks, with_table, Buffer, work_area, route_buffer, a_rank_table, lent, HasInput, inputs_of, input_number, has_input, network_asked, link_asked, with_distances}
use Rattle.lfa.specs.Refusal.{EarlyRow, bad_ranks, EarlyApplies, early_number, Row, early, Decided, Decides, leaves_all, entry_of, returned, tries, all_rows, rows_tried, refusal_of, Posed}
use Rattle.lfa.proofs.Laws.FileRows.{same_number}
use Rattle.lfa.specs.Answer.{Answer, refusal, computed, answer_to, written_to, leave, exit_by, exit_of}
use Rattle.lfa.specs.Demands.{D, HasThis, keys_by_class, keys, IsFirst, IsRepair, TellsOf, RepairedBy, Repaired, Demand3By, Demand3, SameReply, RanksLent, WritesNothing, SameKind, one_answer, Point2}
use Rattle.lfa.proofs.Laws.Ranks.{arrangement_make, ascending_rank}
use Rattle.lfa.proofs.Laws.Class.{class_few}
use Rattle.lfa.proofs.Laws.OnlyOne.{only_one}
use Rattle.lfa.proofs.Laws.Rows.{same_decides}
use Rattle.lfa.proofs.Laws.Answers.{refusal_stated, row_leaves}
use Rattle.lfa.proofs.Laws.Replies.{has_buffer}
use Rattle.lfa.proofs.Laws.SameKind.{computed_alike, returned_alike}

module _ (q : Question) (ranks : List ℕ) where
  abbrev other : Question
  other = with_ranks ranks q

  -- the same row decides, where row 15 is not tried or judges both tables alike
  refusal_alike : (HasInput q a_rank_table → is_arrangement q.ranks ≡ is_arrangement ranks) → refusal_of q ≡ refusal_of other
  unfolding refusal_of rows_tried tries entry_of with_ranks
  refusal_alike same = same_decides (returned q) (returned other) (tries q.call) all_rows (λ r m t. returned_alike q ranks r (λ e. same (ap (tries q.call) (sym e) ∙ t)))

  work_alike : refusal_of q ≡ refusal_of other → (area : List ℕ) → exit_of q work_area area ≡ exit_of other work_area area
  unfolding exit_of written_to network_asked with_ranks
  work_alike same area = ap (λ (o : Option (Decided Row)). exit_by o work_area area (written_to q work_area area)) same

  -- ---- two arrangements

  module _ (a : Arrangement q.ranks) (b : Arrangement ranks) where
    both_pass : refusal_of q ≡ refusal_of other
    both_pass = refusal_alike (λ h. arrangement_make q.ranks a ∙ sym (arrangement_make ranks b))

    -- The same row turns both questions away, or none does, and then what is computed is of one kind.
    same_who : SameKind (answer_to q) (answer_to other)
    unfolding answer_to with_ranks
    same_who = rw (← both_pass, answer_to) (go (refusal_of q))
      where
        go : (o : Option (Decided Row)) → SameKind (elim o as (λ _. Answer) [ some r ↦ refusal r | none ↦ computed q q.call ]) (elim o as (λ _. Answer) [ some r ↦ refusal r | none ↦ computed other q.call ])
        go (some r) = one_answer refl
        go none = computed_alike q ranks q.call

  -- ---- calls that take no table

  module _ (no : HasInput q a_rank_table → ⊥) where
    computed_same : (c : Call) → (has_input c a_rank_table ≡ true → ⊥) → computed q c ≡ computed other c
    unfolding computed with_distances network_asked link_asked with_ranks has_input inputs_of input_number member_of any_of
    computed_same load n = refl
    computed_same fill n = refl
    computed_same (space s) n = refl
    computed_same (link_repair from) n = absurd (n refl)
    computed_same (prefix_repair from) n = absurd (n refl)
    computed_same (route from) n = absurd (n refl)

    route_takes : (c : Call) {from : Source} → c ≡ route from → has_input c a_rank_table ≡ true
    unfolding has_input inputs_of input_number member_of any_of
    route_takes c e = ap (λ c. has_input c a_rank_table) e

    no_row : refusal_of q ≡ refusal_of other
    no_row = refusal_alike (λ h. absurd (no h))

    none_taken : SameReply q other
    unfolding answer_to with_ranks
    none_taken = record {
      answer = ap₂ (λ (o : Option (Decided Row)) (a : Answer). elim o [ some r ↦ refusal r | none ↦ a ]) no_row (computed_same q.call no);
      exit = exit;
    }
      where
        exit : (x : Buffer) → HasInput q (lent x) → (before : List ℕ) → exit_of q x before ≡ exit_of other x before
        exit work_area h before = work_alike no_row before
        exit route_buffer h before = absurd (no (route_takes q.call (has_buffer q.call h).1))

-- ---- rows of value 0

-- an early row writes nothing, and none of these returns another value than 0
pub writes_nothing : (q : Question) (r : EarlyRow) → ((v : ℕ) → EarlyApplies q r v → v ≡ 0) → WritesNothing q (early_number r)
unfolding entry_of leaves_all leave
writes_nothing q r zero v e =
    let s = refusal_stated q (early_number r) v e in
    let decides = subst (λ (r : Row). Decides q r v) (same_number s.0 (early r) s.1) s.2 in
    (zero v decides.applies, λ x h before. row_leaves q (early r) v decides x before)

-- ---- ascending ranks

module _ (q : Question) (e : q.ranks ≡ ascending) where
  -- the keys are those of document 01, since the rank of a class is the class
  keys_same : {to : Target} {p : Pair} {t : Told} → TellsOf q to p t → keys q t ≡ keys_by_class q t
  keys_same {t = t} tells =
      ap (λ (r : ℕ). keys_at r (D q) (link_asked q) t) (ap (λ (l : List ℕ). rank_of l t.class) e ∙ ascending_rank t.class (class_few tells.class_is))

  pub first_by_class : {to : Target} {t : Told} → IsRepair q to t → IsFirst q (keys_by_class q) (HasThis q to) to t
  first_by_class f = record {
    pair = f.pair;
    candidate = f.candidate;
    tells = f.tells;
    has_this = f.has_this;
    earliest = λ p u is told h. rw (keys_same f.tells, keys_same told) at (f.earliest p u is told h);
  }

  repaired_by_class : {to : Target} {answer : Answer} → Repaired q to answer → RepairedBy q (keys_by_class q) (HasThis q to) to answer
  repaired_by_class r = record { repair_or_14 = r.repair_or_14; is_repair = λ t a. first_by_class (r.is_repair t a); exactly = r.exactly }

  as_before : {answer : Answer} → Demand3 q answer → Demand3By q (keys_by_class q) answer
  as_before d = record {
    prefix_repaired = λ c may. repaired_by_class (d.prefix_repaired c may);
    link_repaired = λ c. repaired_by_class (d.link_repaired c);
    link_has_this = d.link_has_this;
  }

-- ---- the Point

pub ranks_lent : RanksLent
unfolding ask_link ask_prefix ask_route with_ranks with_table
ranks_lent = record {
  link_other = λ b area l e ranks others. refl;
  prefix_other = λ b area l e p ranks others. refl;
  route_other = λ b area buffer l e p ranks others choices. refl;
  with_table_lem = λ table others q. refl;
}

pub point_2 : (q : Question) → (Posed q → Demand3 q (answer_to q)) → Point2 q
point_2 q demand_3 = record {
  same_who = λ a ranks b. same_who q ranks a b;
  same_work = λ a ranks b h area. work_alike q ranks (both_pass q ranks a b) area;
  writes_nothing = writes_nothing q bad_ranks (λ v h. h.1);
  as_before = λ e p. as_before q e (demand_3 p);
  one_by_class = λ to. only_one q (λ t. t.class) (HasThis q to) to;
  one_by_rank = λ to. only_one q (λ t. rank_of q.ranks t.class) (HasThis q to) to;
  none_taken = λ no ranks. none_taken q ranks no;
}
