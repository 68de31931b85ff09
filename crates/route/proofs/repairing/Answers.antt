-- End 0 is the link's first router, and every other end its second.
use Rattle.std.proofs.Common.{◌≡◌, ℕ, zero, suc, refl, ◌∙◌}
use Rattle.lfa.specs.Network.{link}
use Rattle.lfa.specs.Space.{under_maintenance, protected_by}
use Rattle.search.specs.Hops.{protected_in}
use Rattle.route.proofs.repairing.Goals as goal

pub returns-then-end-eq0 : goal.returns-then-end-eq0
unfolding protected_in protected_by
returns-then-end-eq0 c = rw (c.if-end-eq0.true, protected_by) c.from.ensures

-- an end that is not 0
other_end : (l e a b ab ba : ℕ) → (e ≡ 0 → ⊥) → b ≡ (protected_by under_maintenance l e (link a b ab ba)).near
unfolding protected_by
other_end l zero a b ab ba h = absurd (h refl)
other_end l (suc e) a b ab ba h = refl

pub returns-else-end-eq0 : goal.returns-else-end-eq0
unfolding protected_in
returns-else-end-eq0 c = c.from-else-end-eq0.ensures ∙ other_end _ _ _ _ _ _ c.if-end-eq0.false
