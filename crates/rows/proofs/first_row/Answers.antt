-- Each row stands before those that are tried after it.
use Rattle.std.proofs.Common.{ℕ, ◌*◌, Bool, leb, refl, sym, ap, ◌∙◌}
use Rattle.lfa.specs.Lists.{unless}
use Rattle.lfa.specs.Refusal.{entry_of, early_rows, tries, sized_returned}
use Rattle.rows.specs.declared.Inputs.{Inputs}
use Rattle.rows.specs.Rows.{given_in, call_of, question_about, inputs_in, row_decided}
use Rattle.rows.specs.Laws.{has_cells}
use Rattle.rows.proofs.RowLaws.{no_row, row_before, found_first, right_told, six_tried}
use Rattle.rows.proofs.first_row.Goals as goal

pub returns : goal.returns
unfolding row_decided question_about inputs_in early_rows tries entry_of sized_returned
returns c = λ b s table choices ranks right e.
    let a = c.args in
    let n = c.from-n.ensures in
    let has = c.inputs_of-has.ensures s ∙ ap (λ (g : Bool). inputs_in (call_of a.asked.call g s)) c.given.ensures in
    let area = c.row_unless-area in
    let lent = c.row_unless-table in
    let buffer = c.row_unless-buffer in
    let arranged = c.row_unless-ranks in
    let link = c.row_unless-link in
    let prefix = c.row_unless-prefix in
    ap row_decided (six_tried area.result lent.result buffer.result arranged.result link.result prefix.result c.and.ensures c.and-2.ensures c.and-3.ensures c.and-4.ensures c.and-5.ensures)
    ∙ found_first _ _
    (row_before _ _ _ area.ensures (sym (has_cells a.asked.call (given_in a.cells) s)) (λ g. ap (λ (k : ℕ). unless (leb (k * k) c.count.result) (k * k)) n ∙ ap (λ (k : ℕ). unless (leb (a.routers * a.routers) k) (a.routers * a.routers)) c.count.ensures) refl
    (row_before _ _ _ lent.ensures (ap (λ (i : Inputs). i.table) has) (λ g. ap (λ (t : Bool). unless t 0) (c.right.ensures ∙ right_told a.cells a.asked.call s right (ap (λ (i : Inputs). i.table) has) g)) refl
    (row_before _ _ _ buffer.ensures (ap (λ (i : Inputs). i.buffer) has) (λ g. ap (λ (k : ℕ). unless (leb (2 * k) a.asked.buffer) (2 * k)) n) refl
    (row_before _ _ _ arranged.ensures (ap (λ (i : Inputs). i.ranks) has) (λ g. ap (λ (t : Bool). unless t 0) (sym e)) refl
    (row_before _ _ _ link.ensures (ap (λ (i : Inputs). i.link) has) (λ g. ap (λ (t : Bool). unless t a.links) c.named-there.ensures) refl
    (row_before _ _ _ prefix.ensures (ap (λ (i : Inputs). i.prefix) has) (λ g. refl) refl no_row))))))
