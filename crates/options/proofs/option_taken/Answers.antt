use Rattle.std.proofs.Common.{sym, ap, ◌∙◌, ℕ, ◌+◌, ◌-◌, ◌%◌, get_or}
use lib.Count.{ones}
use Rattle.options.specs.Options.{move_in, members_of}
use Rattle.options.proofs.MemberLaws.{members_count}
use Rattle.options.proofs.MoveLaws.{taken_none, taken_step, taken_delivery, taken_later}
use Rattle.options.proofs.option_taken.Goals as goal

pub returns-then-steps-eq0 : goal.returns-then-steps-eq0
unfolding move_in
returns-then-steps-eq0 c =
    rw (c.if-not-deliver.true) (taken_none _ _ (sym (members_count c.args.next c.ranges.next.fits) ∙ c.if-steps-eq0.true))

pub returns-then-not-deliver : goal.returns-then-not-deliver
unfolding move_in
returns-then-not-deliver c =
    let n = c.args.next in
    rw (c.if-not-deliver.true)
    (taken_step _ _ (members_count n c.ranges.next.fits) c.if-steps-eq0.false (c.member.ensures ∙ ap (λ (b : ℕ). get_or (members_of n) (b % ones n) 0) c.from.ensures))

pub returns-then-number-eq0 : goal.returns-then-number-eq0
unfolding move_in
returns-then-number-eq0 c =
    let n = c.args.next in
    rw (c.if-not-deliver.false)
    (taken_delivery _ _ (members_count n c.ranges.next.fits) (ap (λ (b : ℕ). b % (ones n + 1)) (sym c.from-2.ensures) ∙ c.if-number-eq0.true))

pub returns : goal.returns
unfolding move_in
returns c =
    let n = c.args.next in
    rw (c.if-not-deliver.false)
    (taken_later _ _ (members_count n c.ranges.next.fits) (λ e. c.if-number-eq0.false (ap (λ (b : ℕ). b % (ones n + 1)) c.from-2.ensures ∙ e))
    (c.member-2.ensures ∙ ap (λ (b : ℕ). get_or (members_of n) (b % (ones n + 1) - 1) 0) c.from-2.ensures))
