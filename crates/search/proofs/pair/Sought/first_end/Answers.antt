use Rattle.std.proofs.Common.{◌≡◌, sym, ◌∙◌, arith}
use Rattle.arcs.specs.Arcs.{hop_in}
use Rattle.search.proofs.EndLaws.{none_yet, end_passed, end_taken, end_kept, end_found}
use Rattle.search.proofs.pair.Sought.first_end.Goals as goal
use Rattle.search.proofs.pair.Sought.first_end.Goals.{then-may_end+then-key-least, then-may_end+else-key-least, else-may_end}

pub loop-y-init : goal.loop-y-init
loop-y-init c = none_yet _ _ _ _ _ _ _ _ _

pub loop-y-preserved : goal.loop-y-preserved
loop-y-preserved c =
    let a = c.args in
    let s = a.self.now in
    let y = c.loop-y.y in
    let before = c.loop-y.invariant in
    elim c.if-may_end.branch [
      | then-may_end+then-key-least w ↦ rw (w.best-is, w.least-is) (end_taken s.ranks.now s.area.n s.area.cells.now s.protected.near s.protected.far s.target.now (hop_in a.hop) a.protecting a.endpoints s.keys y s.keyed (sym c.may_end.ensures ∙ w.if-may_end.true) w.key_of-key.ensures w.if-key-least.true before)
      | then-may_end+else-key-least w ↦ rw (w.best-is, w.least-is) (end_kept s.ranks.now s.area.n s.area.cells.now s.protected.near s.protected.far s.target.now (hop_in a.hop) a.protecting a.endpoints s.keys y s.keyed (sym c.may_end.ensures ∙ w.if-may_end.true) w.key_of-key.ensures w.if-key-least.false before)
      | else-may_end w ↦ rw (w.best-is, w.least-is) (end_passed s.ranks.now s.area.n s.area.cells.now s.protected.near s.protected.far s.target.now (hop_in a.hop) a.protecting a.endpoints y (sym c.may_end.ensures ∙ w.if-may_end.false) before)
    ]

pub returns : goal.returns
returns c =
    let a = c.args in
    let s = a.self.now in
    let all : c.loop-y.y ≡ s.area.n = omega arith in
    end_found s.ranks.now s.area.n s.area.cells.now s.protected.near s.protected.far s.target.now (hop_in a.hop) a.protecting a.endpoints s.few (rw all at c.loop-y.invariant)
