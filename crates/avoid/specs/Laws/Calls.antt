-- The answers of the public functions where the distances can be read, as a caller knows it.
-- Assumes nothing.
use Rattle.std.specs.Prelude.{ℕ, ◌<◌, ◌≡◌, true, List, length}
use Rattle.std.proofs.Common.{◌∙◌, lt-ltb}
use Rattle.lfa.specs.Space.{Protected, set_of}
use Rattle.lfa.proofs.Laws.Test.{and_make}
use Rattle.metric.proofs.Laws.Fit.{cells_fit_lem}
use Rattle.metric.specs.Area.{held}
use Rattle.avoid.specs.Avoiding.{clears, clears_to}
use Rattle.avoid.specs.Calls.{Readable, readable, avoiding_to, avoiding_from}

-- the test passes where the distances can be read
pub passes : {n : ℕ} {q : Protected} {area : List ℕ} → Readable n q area → readable n q (length area) ≡ true
unfolding readable
passes {n} {q} {area} r =
    and_make _ _ (cells_fit_lem n (length area) r.few r.long) (and_make _ _ (lt-ltb q.near n r.near_in) (lt-ltb q.far n r.far_in))

-- the sets are those of the routers that pass the test by distances
pub to_known : {n : ℕ} {q : Protected} {sums : List ℕ} {set : ℕ} → Readable n q sums → (left target : ℕ → ℕ) → set ≡ avoiding_to n q left sums target →
    set ≡ set_of n (clears left (held n sums) q target)
unfolding avoiding_to
to_known r left target e = e ∙ rw (passes r, avoiding_to)

pub from_known : {n : ℕ} {q : Protected} {left sums : List ℕ} {set : ℕ} → Readable n q left → Readable n q sums → (x : ℕ) → x < n → set ≡ avoiding_from n q left sums x →
    set ≡ set_of n (clears_to (held n left) (held n sums) q x)
unfolding avoiding_from
from_known {n} l r x h e = e ∙ rw (passes l, passes r, lt-ltb x n h, avoiding_from)
